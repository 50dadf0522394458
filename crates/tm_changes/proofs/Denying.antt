-- When other attributes are refused.
use Rattle.std.proofs.Common.{◌≡◌, inl, inr, ℕ, ◌+◌, ◌^◌, ◌<◌, ◌≤◌, Bool, true, false, not, ◌&&◌, cond, nat_lt, if◌then◌else◌, List, [], ◌∷◌, ◌++◌, refl, sym, ap, ◌∙◌, Option, Some, None, Ok, Err, arith}
use Rattle.std.specs.Option.{option_map}
use Rattle.std.proofs.lemmas.Bool.Decides.{nat_tests}
use Rattle.tm_base.specs.Paths.{Names, is_root, same_name}
use Rattle.tm_base.specs.declared.refused.Refused.{Refused}
use Rattle.tm_base.specs.declared.refused.Refused.TheVariants.{RootItem, NoAttribute, IdsSpent}
use Rattle.tm_tree.specs.declared.attrs.Attrs.{Attrs}
use Rattle.tm_tree.specs.declared.change.Change.{Change}
use Rattle.tm_tree.specs.declared.change.Change.TheVariants as change
use Rattle.tm_tree.specs.declared.item.Item.{Item}
use Rattle.tm_tree.specs.declared.item.Item.TheVariants as item
use Rattle.tm_tree.specs.Changes.{item_tests, attrs_at, has_extra, extras_count, most_extras, own_tests, ids_spent, tests, tree_after, fixed_after, attrs_changed}
use Rattle.tm_tree.specs.Contents.{Contents}
use Rattle.tm_tree.specs.Extras.{with_extra, without_extra}
use Rattle.tm_tree.specs.Items.{attrs_of, is_folder, exclusion}
use Rattle.tm_tree.specs.Refusing.{Tests, first_refused, too_many}
use Rattle.tm_tree.specs.Touches.{numbers, stamps}
use Rattle.tm_tree.specs.Trees.{Tree, item_at, is_some_folder}
use Rattle.tm_tree.specs.Walks.{walk, way_of}
use Rattle.tm_changes.specs.Attributes.{SetsAttrs, attrs_after, attrs_tests}
use Rattle.tm_changes.specs.Fitting.{staged_len}
use Rattle.tm_changes.proofs.Backing.{refused_first, passed_first}
use Rattle.tm_changes.proofs.Lacking.{stops}

-- ---- the walk

item_missing : (t : Tree) (p : Names) (why : Refused) → walk t p ≡ Err why → first_refused (item_tests t p) ≡ Some why
item_missing t p why h = elim (stops t [] p why h) [
  | inl one ↦ rw (ap way_of (h ∙ ap (λ (r : Refused). Err r) one), one) refl
  | inr two ↦ rw (ap way_of (h ∙ ap (λ (r : Refused). Err r) two), two) refl
]

item_there : (t : Tree) (p : Names) (e : Item) → walk t p ≡ Ok e → first_refused (item_tests t p) ≡ None
item_there t p (item.Folder a) h = rw (ap way_of h) refl
item_there t p (item.File a s b) h = rw (ap way_of h) refl
item_there t p (item.Link a s b) h = rw (ap way_of h) refl

-- ---- by the attributes

abbrev extras_left : Option Attrs → Bool → List ℕ → Tests
extras_left o root name = too_many most_extras (if has_extra o name then extras_count o else extras_count o + 1) ++ (root && same_name name exclusion, RootItem) ∷ []

own_missing : (v : Contents) (c : Change) (p : Names) (moment : Option ℕ) (why : Refused) → SetsAttrs c p → walk v.tree p ≡ Err why → first_refused (own_tests v c moment) ≡ Some why
own_missing v (change.Chmod q mode) p moment why sets h = item_missing v.tree q why (ap (walk v.tree) sets ∙ h)
own_missing v (change.Chown q uid gid) p moment why sets h = item_missing v.tree q why (ap (walk v.tree) sets ∙ h)
own_missing v (change.Setx q name value) p moment why sets h =
    refused_first (item_tests v.tree q) (extras_left (attrs_at v.tree q) (is_root q) name) why (item_missing v.tree q why (ap (walk v.tree) sets ∙ h))
own_missing v (change.Rmx q name) p moment why sets h =
    refused_first (item_tests v.tree q) ((not (has_extra (attrs_at v.tree q) name), NoAttribute) ∷ []) why (item_missing v.tree q why (ap (walk v.tree) sets ∙ h))
own_missing v other p moment why sets h = absurd sets

own_there : (v : Contents) (c : Change) (p : Names) (moment : Option ℕ) (e : Item) → SetsAttrs c p → walk v.tree p ≡ Ok e → item_at v.tree p ≡ Some e
    → first_refused (own_tests v c moment) ≡ first_refused (attrs_tests c (is_root p) (attrs_of e))
own_there v (change.Chmod q mode) p moment e sets h is = item_there v.tree q e (ap (walk v.tree) sets ∙ h)
own_there v (change.Chown q uid gid) p moment e sets h is = item_there v.tree q e (ap (walk v.tree) sets ∙ h)
own_there v (change.Setx q name value) p moment e sets h is =
    passed_first (item_tests v.tree q) (extras_left (attrs_at v.tree q) (is_root q) name) (item_there v.tree q e (ap (walk v.tree) sets ∙ h))
    ∙ (λ i. first_refused (extras_left (there_at i) (is_root (sets i)) name))
  where
    there_at : attrs_at v.tree q ≡ Some (attrs_of e)
    there_at = ap (λ (o : Option Item). option_map attrs_of o) (ap (item_at v.tree) sets ∙ is)
own_there v (change.Rmx q name) p moment e sets h is =
    passed_first (item_tests v.tree q) ((not (has_extra (attrs_at v.tree q) name), NoAttribute) ∷ []) (item_there v.tree q e (ap (walk v.tree) sets ∙ h))
    ∙ ap (λ (o : Option Attrs). first_refused ((not (has_extra o name), NoAttribute) ∷ [])) (ap (λ (o : Option Item). option_map attrs_of o) (ap (item_at v.tree) sets ∙ is))
own_there v other p moment e sets h is = absurd sets

-- ---- all tests

module _ (v : Contents) (c : Change) (p : Names) (moment : Option ℕ) (sets : SetsAttrs c p) where
  abbrev ids : Tests
  ids = ids_spent v (numbers v.tree c)

  pub not_found : (why : Refused) → walk v.tree p ≡ Err why → first_refused (tests v c moment) ≡ Some why
  not_found why h = refused_first (own_tests v c moment) ids why (own_missing v c p moment why sets h)

  module _ (e : Item) (h : walk v.tree p ≡ Ok e) (is : item_at v.tree p ≡ Some e) where
    pub denied : (why : Refused) → first_refused (attrs_tests c (is_root p) (attrs_of e)) ≡ Some why → first_refused (tests v c moment) ≡ Some why
    denied why refuses = refused_first (own_tests v c moment) ids why (own_there v c p moment e sets h is ∙ refuses)

    pub spent : first_refused (attrs_tests c (is_root p) (attrs_of e)) ≡ None → 2 ^ 62 < v.next + numbers v.tree c → first_refused (tests v c moment) ≡ Some IdsSpent
    spent passes lt = passed_first (own_tests v c moment) ids (own_there v c p moment e sets h is ∙ passes)
        ∙ ap (λ b. cond b (Some IdsSpent) None) (is_less (2 ^ 62) (v.next + numbers v.tree c) lt)
      where
        is_less : (a b : ℕ) → a < b → nat_lt a b ≡ true
        is_less a b lt = grind (arith, nat_tests)

    pub allowed : first_refused (attrs_tests c (is_root p) (attrs_of e)) ≡ None → v.next + numbers v.tree c ≤ 2 ^ 62 → first_refused (tests v c moment) ≡ None
    allowed passes le = passed_first (own_tests v c moment) ids (own_there v c p moment e sets h is ∙ passes)
        ∙ ap (λ b. cond b (Some IdsSpent) None) (not_less (2 ^ 62) (v.next + numbers v.tree c) le)
      where
        not_less : (a b : ℕ) → b ≤ a → nat_lt a b ≡ false
        not_less a b le = grind (arith, nat_tests)

-- ---- what it draws and makes

pub stamps_are : (t : Tree) (c : Change) (p : Names) (e : Item) → SetsAttrs c p → item_at t p ≡ Some e → stamps t c ≡ (if is_folder e then 0 else 1)
stamps_are t (change.Chmod q mode) p e sets is = ap (λ (o : Option Item). if is_some_folder o then 0 else 1) (ap (item_at t) sets ∙ is)
stamps_are t (change.Chown q uid gid) p e sets is = ap (λ (o : Option Item). if is_some_folder o then 0 else 1) (ap (item_at t) sets ∙ is)
stamps_are t (change.Setx q name value) p e sets is = ap (λ (o : Option Item). if is_some_folder o then 0 else 1) (ap (item_at t) sets ∙ is)
stamps_are t (change.Rmx q name) p e sets is = ap (λ (o : Option Item). if is_some_folder o then 0 else 1) (ap (item_at t) sets ∙ is)
stamps_are t other p e sets is = absurd sets

pub tree_is : (t : Tree) (c : Change) (p : Names) (next moment : ℕ) → SetsAttrs c p → attrs_changed t p next (attrs_after c) ≡ tree_after t next moment c
tree_is t (change.Chmod q mode) p next moment sets = λ i. attrs_changed t (sym sets i) next (λ (a : Attrs). record a { mode = mode })
tree_is t (change.Chown q uid gid) p next moment sets = λ i. attrs_changed t (sym sets i) next (λ (a : Attrs). record a { uid = uid; gid = gid })
tree_is t (change.Setx q name value) p next moment sets = λ i. attrs_changed t (sym sets i) next (λ (a : Attrs). record a { extra = with_extra name value a.extra })
tree_is t (change.Rmx q name) p next moment sets = λ i. attrs_changed t (sym sets i) next (λ (a : Attrs). record a { extra = without_extra name a.extra })
tree_is t other p next moment sets = absurd sets

pub fixed_is : (fixed : List Names) (c : Change) (p : Names) → SetsAttrs c p → fixed ≡ fixed_after fixed c
fixed_is fixed (change.Chmod q mode) p sets = refl
fixed_is fixed (change.Chown q uid gid) p sets = refl
fixed_is fixed (change.Setx q name value) p sets = refl
fixed_is fixed (change.Rmx q name) p sets = refl
fixed_is fixed other p sets = absurd sets

pub unstaged : (v : Contents) (c : Change) (p : Names) → SetsAttrs c p → staged_len v c ≡ 0
unstaged v (change.Chmod q mode) p sets = refl
unstaged v (change.Chown q uid gid) p sets = refl
unstaged v (change.Setx q name value) p sets = refl
unstaged v (change.Rmx q name) p sets = refl
unstaged v other p sets = absurd sets
