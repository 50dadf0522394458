-- Where stamps tell items wherever they stand, they tell them path by path.
use Rattle.std.proofs.Common.{◌≡◌, ℕ, true, Some, refl, ap}
use Rattle.std.specs.Cmp.{unsigned_Decides}
use Rattle.tm_tree.specs.declared.item.Item.{Item}
use Rattle.tm_tree.specs.declared.item.Item.TheVariants.{Folder, File, Link}
use Rattle.tm_tree.specs.Items.{stamp_of}
use Rattle.tm_copy.specs.Stamps.{alike, AgreeingTell}

-- items that are alike have one stamp
alike_stamp : (d e : Item) → alike d e ≡ true → (s : ℕ) × (stamp_of d ≡ Some s) × (stamp_of e ≡ Some s)
alike_stamp (File a s x) (File b t y) h = (t, ap Some ((unsigned_Decides s t).0 h), refl)
alike_stamp (Link a s x) (Link b t y) h = (t, ap Some ((unsigned_Decides s t).0 h), refl)
alike_stamp (Folder a) e h = absurd (cc h)
alike_stamp (File a s x) (Folder b) h = absurd (cc h)
alike_stamp (File a s x) (Link b t y) h = absurd (cc h)
alike_stamp (Link a s x) (Folder b) h = absurd (cc h)
alike_stamp (Link a s x) (File b t y) h = absurd (cc h)

pub agreeing_tell : AgreeingTell
agreeing_tell old now agree p d e was is h = let s = alike_stamp d e h in agree p p d e s.0 was is s.1 s.2
