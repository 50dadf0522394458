-- What follows from what a call answers.
use Rattle.std.proofs.Common.{◌≡◌, ◌∙◌, sym, Result, Ok, Err}
use Rattle.std.specs.Prelude.{OnOk, OnErr}
use Rattle.tm_base.specs.declared.refused.LineFault.{LineFault}
use Rattle.tm_volume.specs.Seen.{IsShelved}
use Rattle.tm_volume.specs.Seen.{Seen}
use Rattle.tm_volume.proofs.Finding.{OnShelf}

pub on_ok : {T A B : Type 0} (r : Result T LineFault) → (A → B) → OnOk r A → OnOk r B
on_ok (Ok x) f h = f h
on_ok (Err why) f h = tt

pub on_err : {T A B : Type 0} (r : Result T LineFault) → (A → B) → OnErr r A → OnErr r B
on_err (Ok x) f h = tt
on_err (Err why) f h = f h

-- a failure that is handed on
pub handed_on : {A : Type 0} {result : Result A LineFault} {error why : LineFault} → result ≡ Err error → result ≡ Err why → error ≡ why
handed_on from is = same_error (sym from ∙ is)
  where
    same_error : {A : Type 0} {a b : LineFault} → ◌≡◌ {A = Result A LineFault} (Err a) (Err b) → a ≡ b
    same_error h = cc

-- a volume on its shelf
pub on_shelf_of : (m : Seen) (s : IsShelved m) → OnShelf m s.numbers
on_shelf_of m s = record { shelf = s.shelf; rising = s.image.rising }
