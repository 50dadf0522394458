-- The tag of a store.
use Rattle.std.specs.Prelude.{◌≤◌, ◌^◌, ℕ, Option, Some, None, IfSome, List}
use Rattle.tm_gate.specs.Tag.{store_tag, latest}

-- the date of a running backup, if one runs, and the number of the next backup
abbrev pub tag_of : Option ℕ → ℕ → List ℕ
tag_of None number = store_tag 0 0 number
tag_of (Some date) number = store_tag 1 date number

pub record FitsTag (running : Option ℕ) (number : ℕ) : Type 0 where
  pub date : IfSome running (λ date. date ≤ latest)
  pub least : 1 ≤ number
  pub most : number ≤ 2 ^ 40
