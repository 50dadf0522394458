-- What is known where no test refuses a change.
use Rattle.std.proofs.Common.{◌≡◌, ℕ, ◌+◌, ◌^◌, ◌≤◌, Bool, true, false, List, [], ◌∷◌, ◌++◌, length, Option, None, Some, IsSome, if◌then◌else◌, refl, sym, ap, ◌∙◌, subst, arith}
use Rattle.std.proofs.lemmas.Bool.Decides.{nat_tests}
use Rattle.std.specs.Option.{option_or}
use Rattle.tm_base.specs.declared.refused.Refused.{Refused}
use Rattle.tm_base.specs.declared.refused.Refused.TheVariants.{IsFolder}
use Rattle.tm_base.specs.Paths.{Names, parent_of, same_name}
use Rattle.tm_tree.specs.Changes.{ids_spent, own_tests, tests, place_tests, file_tests, item_tests, rmdir_tests, mv_tests, length_at}
use Rattle.tm_tree.specs.Contents.{Contents}
use Rattle.tm_tree.specs.Items.{exclusion}
use Rattle.tm_tree.specs.Refusing.{Tests, first_refused, needs_moment}
use Rattle.tm_tree.specs.Touches.{plain, scan, attr_touches, exclusion_touches, extra_touches, touches, numbers}
use Rattle.tm_tree.specs.Trees.{Tree, folder_at}
use Rattle.tm_tree.specs.Walks.{way, is_at_folder}
use Rattle.tm_tree.specs.declared.change.Change.{Change}
use Rattle.tm_tree.specs.declared.change.Change.TheVariants.{Mkdir, Write, Append, Fill, Rm, Rmdir, Mv, Ln, Chmod, Chown, Setx, Rmx, Fix, Unfix}

-- of tests and more tests, the first that holds
pub first_or : (a b : Tests) → first_refused (a ++ b) ≡ option_or (first_refused a) (first_refused b)
first_or [] b = refl
first_or ((true, why) ∷ a) b = refl
first_or ((false, why) ∷ a) b = first_or a b

-- a test that holds is met before the tests that follow
pub refused_first : (a b : Tests) (why : Refused) → first_refused a ≡ Some why → first_refused (a ++ b) ≡ Some why
refused_first a b why h = first_or a b ∙ ap (λ o. option_or o (first_refused b)) h

-- where none holds, the tests that follow decide
pub passed_first : (a b : Tests) → first_refused a ≡ None → first_refused (a ++ b) ≡ first_refused b
passed_first a b h = first_or a b ∙ ap (λ o. option_or o (first_refused b)) h

pub none_before : (a b : Tests) → first_refused (a ++ b) ≡ None → first_refused a ≡ None
none_before [] b h = refl
none_before ((true, why) ∷ a) b h = cc
none_before ((false, why) ∷ a) b h = none_before a b h

pub none_after : (a b : Tests) → first_refused (a ++ b) ≡ None → first_refused b ≡ None
none_after [] b h = h
none_after ((true, why) ∷ a) b h = cc
none_after ((false, why) ∷ a) b h = none_after a b h

pub has_moment : (a : Tests) (moment : Option ℕ) → first_refused (a ++ needs_moment moment) ≡ None → IsSome moment
has_moment a None h = absurd (cc (none_after a (needs_moment None) h))
has_moment a (Some m) h = refl

ids_left : (v : Contents) (n : ℕ) → first_refused (ids_spent v n) ≡ None → v.next + n ≤ 2 ^ 62
ids_left v n h = grind (arith, nat_tests)

-- the lines that date something
abbrev pub is_dated : Change → Bool
is_dated (Mkdir p) = true
is_dated (Write p bytes) = true
is_dated (Append p bytes) = true
is_dated (Fill p count seed) = true
is_dated (Rm p) = true
is_dated (Rmdir p) = true
is_dated (Mv a b) = true
is_dated (Ln p target) = true
is_dated _ = false

pub own_pass : (v : Contents) (c : Change) (m : Option ℕ) → first_refused (tests v c m) ≡ None → first_refused (own_tests v c m) ≡ None
own_pass v c m h = none_before (own_tests v c m) (ids_spent v (numbers v.tree c)) h

dated_own : (v : Contents) (c : Change) (m : Option ℕ) → is_dated c ≡ true → first_refused (own_tests v c m) ≡ None → IsSome m
dated_own v (Mkdir p) m d h = has_moment (place_tests v.tree p) m h
dated_own v (Write p bytes) m d h = has_moment (file_tests v.tree p (length bytes)) m h
dated_own v (Append p bytes) m d h = has_moment (file_tests v.tree p (length_at v.tree p + length bytes)) m h
dated_own v (Fill p count seed) m d h = has_moment (file_tests v.tree p count) m h
dated_own v (Rm p) m d h = has_moment (item_tests v.tree p ++ (is_at_folder (way v.tree p), IsFolder) ∷ []) m h
dated_own v (Rmdir p) m d h = has_moment (rmdir_tests v.tree p) m h
dated_own v (Mv a b) m d h = has_moment (mv_tests v.tree a b) m h
dated_own v (Ln p target) m d h = has_moment (place_tests v.tree p) m h
dated_own v (Chmod p mode) m d h = cc
dated_own v (Chown p uid gid) m d h = cc
dated_own v (Setx p name value) m d h = cc
dated_own v (Rmx p name) m d h = cc
dated_own v (Fix p) m d h = cc
dated_own v (Unfix p) m d h = cc

-- a line that dates something and that nothing refuses has a moment
pub dated_moment : (v : Contents) (c d : Change) (m : Option ℕ) → c ≡ d → is_dated d ≡ true → first_refused (tests v c m) ≡ None → IsSome m
dated_moment v c d m is dated h = dated_own v c m (subst (λ (x : Change). is_dated x ≡ true) (sym is) dated) (own_pass v c m h)

-- a change that nothing refuses draws at most the last number
pub numbers_left : (v : Contents) (c : Change) (m : Option ℕ) → first_refused (tests v c m) ≡ None → v.next + numbers v.tree c ≤ 2 ^ 62
numbers_left v c m h = ids_left v (numbers v.tree c) (none_after (own_tests v c m) (ids_spent v (numbers v.tree c)) h)

few_attrs : (t : Tree) (p : Names) → length (attr_touches t p) ≤ 3
few_attrs t p = elim (folder_at t p) as (λ b. length (if b then plain p else plain (parent_of p)) ≤ 3) [ true ↦ omega arith | false ↦ omega arith ]

few_exclusion : (t : Tree) (p : Names) → length (exclusion_touches t p) ≤ 3
few_exclusion t p =
    elim (folder_at t p) as (λ b. length (if b then plain (parent_of p) ++ scan p else plain (parent_of p)) ≤ 3) [ true ↦ omega arith | false ↦ omega arith ]

few_extra : (t : Tree) (p : Names) (name : List ℕ) → length (extra_touches t p name) ≤ 3
few_extra t p name =
    elim (same_name name exclusion) as (λ b. length (if b then exclusion_touches t p else attr_touches t p) ≤ 3) [
      | true ↦ few_exclusion t p
      | false ↦ few_attrs t p
    ]

few_moved : (t : Tree) (a b : Names) → length (plain (parent_of a) ++ plain (parent_of b) ++ (if folder_at t a then scan b else [])) ≤ 3
few_moved t a b = elim (folder_at t a) as (λ f. length (plain (parent_of a) ++ plain (parent_of b) ++ (if f then scan b else [])) ≤ 3) [ true ↦ omega arith | false ↦ omega arith ]

pub few_touches : (t : Tree) (c : Change) → length (touches t c) ≤ 3
few_touches t (Mkdir p) = omega arith
few_touches t (Write p bytes) = omega arith
few_touches t (Append p bytes) = omega arith
few_touches t (Fill p count seed) = omega arith
few_touches t (Rm p) = omega arith
few_touches t (Rmdir p) = omega arith
few_touches t (Mv a b) = few_moved t a b
few_touches t (Ln p target) = omega arith
few_touches t (Chmod p mode) = few_attrs t p
few_touches t (Chown p uid gid) = few_attrs t p
few_touches t (Setx p name value) = few_extra t p name
few_touches t (Rmx p name) = few_extra t p name
few_touches t (Fix p) = omega arith
few_touches t (Unfix p) = omega arith
