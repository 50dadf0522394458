-- What stands at the paths of a run's words.
use Rattle.std.specs.Prelude.{◌≡◌, ℕ, true, false, List, Option, Some}
use Rattle.tm_world.specs.Disk.{Image, IsLeft}
use Rattle.tm_world.specs.Outside.{Outside, Place, is_place}
use Rattle.tm_world.specs.Torn.{as_read}
use Rattle.tm_run.specs.Pairs.{found, image_at}

-- an image stands at the path, of which a stop leaves this
pub record Leaves (path : List ℕ) (now : Outside) (image : Image) : Type 0 where
  pub there : (now.stands (Some path)).there ≡ true
  pub left : IsLeft (now.stands (Some path)) image

-- whatever pair a stop leaves at two paths is such a pair
abbrev pub LeavesAt : List ℕ → List ℕ → (Image → Image → Type 0) → Outside → Type 0
LeavesAt p q P now = (v z : Image) → Leaves p now v → Leaves q now z → P v z

-- whatever a stop would leave of the pair that a run finds is such a pair
abbrev pub FindsPair : List ℕ → List ℕ → Option ℕ → (Image → Image → Type 0) → Outside → Type 0
FindsPair p q create P start = (v z : Image) → IsLeft (found p create start) v → IsLeft (found q create start) z → P v z

-- a run that starts here finds at the path what a stop may have left there
abbrev pub FindsLeft : List ℕ → Option ℕ → Outside → Outside → Type 0
FindsLeft path create before start = (image : Image) → IsLeft (found path create start) image → Leaves path before image

-- an image was not written: byte for byte it reads as what a run found at the path, or made there, and a stop leaves of it no
-- more than it would have left of that
pub record KeepsImage (path : List ℕ) (create : Option ℕ) (start now : Outside) : Type 0 where
  pub reads : (now.stands (Some path)).there ≡ true → as_read (now.stands (Some path)) ≡ image_at path create start
  pub leaves : (image : Image) → Leaves path now image → IsLeft (found path create start) image
  pub absent : (now.stands (Some path)).there ≡ false → (start.stands (Some path)).there ≡ false

-- all that stands at other paths is as before
abbrev pub ElsewhereSame : List ℕ → List ℕ → Outside → Outside → Type 0
ElsewhereSame p q old now = (at : Place) → is_place (Some p) at ≡ false → is_place (Some q) at ≡ false → now.stands at ≡ old.stands at
