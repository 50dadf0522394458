-- The plan of a new item without data.
use Rattle.std.proofs.Common.{◌≡◌, ℕ, ◌+◌, ◌^◌, ◌<◌, ◌≤◌, Bool, true, false, nat_eq, nat_lt, cond, List, [], ◌∷◌, ◌++◌, refl, sym, ap, ◌∙◌, subst, Option, Some, None, Ok, Err, IsSome, is_some, arith}
use Rattle.std.proofs.Math.Bool.{Bool-set}
use Rattle.std.proofs.Math.Logic.{∥∥₁_elim}
use Rattle.std.specs.Cmp.Lexicographic.{bytes_decides, pointwise}
use Rattle.std.specs.List.{All}
use Rattle.std.specs.List.Sorted.{IsStrictlySortedBy}
use Rattle.std.proofs.lemmas.Bool.Decides.{nat_tests}
use Rattle.tm_base.specs.Days.{last_moment}
use Rattle.tm_base.specs.IsName.{IsName}
use Rattle.tm_base.specs.Paths.{Names, is_root, name_cmp}
use Rattle.tm_base.specs.declared.refused.Refused.{Refused}
use Rattle.tm_base.specs.declared.refused.Refused.TheVariants.{IdsSpent}
use Rattle.tm_items.specs.Changes.{Are}
use Rattle.tm_items.specs.Placings.{Placed, Items}
use Rattle.tm_items.proofs.Reading.{is_tree}
use Rattle.tm_nodes.specs.Attrs.{IsAttrs, IsExtra}
use Rattle.tm_nodes.specs.Headers.{machine_text}
use Rattle.tm_nodes.specs.Records.{machine_of}
use Rattle.tm_nodes.proofs.HeadLemmas.{machine_finds}
use Rattle.tm_tree.specs.Changes.{tests, place_tests, ids_spent}
use Rattle.tm_tree.specs.Contents.{Contents}
use Rattle.tm_tree.specs.Items.{new_attrs}
use Rattle.tm_tree.specs.Refusing.{Tests, first_refused, needs_moment}
use Rattle.tm_tree.specs.Trees.{Tree, item_at, folder_at, is_some_folder, last_of}
use Rattle.tm_changes.specs.declared.creation.NewItem.{NewItem}
use Rattle.tm_changes.specs.declared.creation.NewItem.TheVariants as new
use Rattle.tm_changes.specs.declared.creation.Creation.{Creation}
use Rattle.tm_changes.specs.Changes.{IsChange, changed}
use Rattle.tm_changes.specs.Placing.{IsNewRow, placed_stored}
use Rattle.tm_base.specs.declared.refused.LineFault.{LineFault}
use Rattle.tm_base.specs.declared.refused.LineFault.TheVariants.{Refused as RefusedFor, Fault, Memory}
use Rattle.tm_changes.specs.Creations.{making, new_body, creation_of, IsCreation, FindsCreation}
use Rattle.tm_volume_records.specs.Rules.{IsGoodVolume}
use Rattle.tm_volume.specs.Seen.{Seen, entries_on, items_on, tree_on, volume_on}
use Rattle.tm_changes.specs.Destinations.{FindsFolder}
use Rattle.tm_volume_records.specs.Records.{item_with}
use Rattle.tm_volume.specs.Stored.{StoredVolume}
use Rattle.tm_changes.proofs.Backing.{refused_first, passed_first}
use Rattle.tm_nodes.proofs.Fields.{name_had}
use Rattle.tm_base.specs.Limits.{max_items}

-- ---- its row

no_extras : All IsExtra []
no_extras k d lt = absurd (omega arith)

none_rise : IsStrictlySortedBy name_cmp []
unfolding IsStrictlySortedBy
none_rise = tt

pub new_attrs_are : (mode date : ℕ) → mode ≤ 4095 → date ≤ last_moment → IsAttrs (new_attrs mode date)
new_attrs_are mode date few low = record { mode = few; uid = omega arith; gid = omega arith; modified = low; few = omega arith; each = no_extras; rising = none_rise }

pub new_row : (p : Names) (item : NewItem) (folder date drawn : ℕ) → IsChange (making p item) → folder ≤ max_items → IsName (last_of p) → date ≤ last_moment → 1 ≤ drawn → drawn + 2 ≤ 2 ^ 62
    → IsNewRow (creation_of p item folder date drawn).row folder (last_of p) (drawn + 2)
new_row p new.Folder folder date drawn can few named low some most = record {
  rules = record { rules = record { parent = omega arith; name = named; attrs = new_attrs_are 493 date (omega arith) low; tail = tt }; size_is = tt };
  parent = refl;
  name = refl;
  bytes = refl;
  stamp = tt;
}
new_row p (new.Link target) folder date drawn can few named low some most = record {
  rules = record { rules = record { parent = omega arith; name = named; attrs = new_attrs_are 493 date (omega arith) low; tail = (omega arith, can) }; size_is = tt };
  parent = refl;
  name = refl;
  bytes = refl;
  stamp = (some, omega arith);
}

-- ---- where nothing stands the path isn't the root's

pub below_root : (t : Tree) (p : Names) → folder_at t [] ≡ true → item_at t p ≡ None → is_root p ≡ false
below_root t [] rooted none = let bad : true ≡ false = sym rooted ∙ ap is_some_folder none in cc
below_root t (name ∷ rest) rooted none = more name rest
  where
    more : (x : List ℕ) (q : Names) → is_root (x ∷ q) ≡ false
    more x q = grind (arith, nat_tests)

pub not_root : (items : Items) (t : Tree) → Are items t → (p : Names) → item_at t p ≡ None → is_root p ≡ false
not_root items t are p none = below_root t p (is_tree items t are.sound are.reads).rooted none

pub is_there : (o : Option Placed) → is_some o ≡ true → IsSome o
is_there None h = cc
is_there (Some x) h = refl

-- ---- the tests

is_less : (a b : ℕ) → a < b → nat_lt a b ≡ true
is_less a b lt = grind (arith, nat_tests)

not_less : (a b : ℕ) → b ≤ a → nat_lt a b ≡ false
not_less a b le = grind (arith, nat_tests)

module _ (v : Contents) (p : Names) (moment : Option ℕ) where
  abbrev own : Tests
  own = place_tests v.tree p ++ needs_moment moment

  tests_are : (item : NewItem) → tests v (making p item) moment ≡ own ++ ids_spent v 2
  tests_are new.Folder = refl
  tests_are (new.Link target) = refl

  pub spot_refuses : (item : NewItem) (why : Refused) → first_refused own ≡ Some why → first_refused (tests v (making p item) moment) ≡ Some why
  spot_refuses item why h = ap first_refused (tests_are item) ∙ refused_first own (ids_spent v 2) why h

  pub numbers_refuse : (item : NewItem) → first_refused own ≡ None → 2 ^ 62 < v.next + 2 → first_refused (tests v (making p item) moment) ≡ Some IdsSpent
  numbers_refuse item h lt = ap first_refused (tests_are item) ∙ passed_first own (ids_spent v 2) h ∙ ap (λ b. cond b (Some IdsSpent) None) (is_less (2 ^ 62) (v.next + 2) lt)

  pub all_pass : (item : NewItem) → first_refused own ≡ None → v.next + 2 ≤ 2 ^ 62 → first_refused (tests v (making p item) moment) ≡ None
  all_pass item h le = ap first_refused (tests_are item) ∙ passed_first own (ids_spent v 2) h ∙ ap (λ b. cond b (Some IdsSpent) None) (not_less (2 ^ 62) (v.next + 2) le)

-- ---- the change

-- the volume with the item is the volume changed
pub makes_change : (s : StoredVolume) (p : Names) (item : NewItem) (date : ℕ)
    → placed_stored s p date (item_with (new_body item date s.volume.contents.next) []) (s.volume.contents.next + 2) ≡ changed s (making p item) (Some date)
makes_change s p new.Folder date = refl
makes_change s p (new.Link target) date = refl

-- ---- the plan

pub folder_refused : (m : Seen) (p : Names) (item : NewItem) (moment : Option ℕ) (e : LineFault)
    → ((bytes : ℕ → List ℕ) → FindsFolder (items_on m bytes) (tree_on m bytes) p moment (IsGoodVolume (entries_on m bytes) m.tag) (Err e)) → FindsCreation m p item moment (Err e)
folder_refused m p item moment (RefusedFor why) h = λ bytes good. spot_refuses (volume_on m bytes).contents p moment item why (h bytes good)
folder_refused m p item moment (Fault side) h = h (λ _. [])
folder_refused m p item moment Memory h = tt

pub creation_ready : (m : Seen) (p : Names) (item : NewItem) (moment : Option ℕ) (folder date drawn : ℕ) (plan : Creation) → plan ≡ creation_of p item folder date drawn → IsNewRow plan.row folder (last_of p) (drawn + 2)
    → drawn ≡ m.tag.next → drawn + 2 ≤ 2 ^ 62 → moment ≡ Some date → is_root p ≡ false
    → ((bytes : ℕ → List ℕ) → FindsFolder (items_on m bytes) (tree_on m bytes) p moment (IsGoodVolume (entries_on m bytes) m.tag) (Ok folder)) → IsCreation m p item moment plan
creation_ready m p item moment folder date drawn plan is row from most dated below spot = subst (λ (q : Creation). IsCreation m p item moment q) (sym is) (record {
  is = λ i. creation_of p item folder date (from i);
  dated = dated;
  into = λ bytes. (spot bytes).0;
  none = λ bytes. (spot bytes).1;
  below = below;
  row = subst (λ (q : Creation). IsNewRow q.row folder (last_of p) (drawn + 2)) is row;
  drawn = most;
  passes = λ bytes good. all_pass (volume_on m bytes).contents p moment item ((spot bytes).3 good) (omega (arith, from, most));
})
