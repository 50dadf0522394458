-- The attributes of an item after a change of them.
use Rattle.std.proofs.Common.{◌≡◌, ℕ, zero, suc, ◌+◌, ◌^◌, ◌<◌, ◌≤◌, Bool, true, false, ◌&&◌, cond, nat_lt, if◌then◌else◌, List, [], ◌∷◌, length, refl, sym, ap, ◌∙◌, subst, Option, Some, None, is_some, arith}
use Rattle.std.specs.BTreeMap.{is_at, insert_entry}
use Rattle.std.specs.Cmp.Lexicographic.{nat_list_cmp_total, nat_list_eq_equiv, texts_ties}
use Rattle.std.specs.List.{All}
use Rattle.std.specs.List.Sorted.{IsStrictlySortedBy}
use Rattle.std.specs.Map.{keys_of, remove_entry}
use Rattle.std.specs.Ordering.{is_eq, match_ordering}
use Rattle.std.specs.declared.cmp.Ordering.TheVariants.{Less, Equal, Greater}
use Rattle.std.proofs.lemmas.Bool.Decides.{nat_tests}
use Rattle.std.proofs.lemmas.Map.{lookup-none}
use Rattle.std.proofs.lemmas.Map.Entries.{none_below_head}
use Rattle.tm_base.specs.IsName.{IsName}
use Rattle.tm_base.specs.Paths.{name_cmp, same_name}
use Rattle.tm_base.specs.declared.refused.Refused.{Refused}
use Rattle.tm_base.specs.declared.refused.Refused.TheVariants.{TooMany, RootItem}
use Rattle.tm_nodes.specs.Attrs.{IsExtra}
use Rattle.tm_nodes.specs.Items.{item_attrs, IsItemTail, HasItemSize}
use Rattle.tm_tree.specs.declared.attrs.Attrs.{Attrs}
use Rattle.tm_tree.specs.declared.change.Change.{Change}
use Rattle.tm_tree.specs.declared.change.Change.TheVariants as change
use Rattle.tm_tree.specs.declared.item.Item.{Item}
use Rattle.tm_tree.specs.declared.item.Item.TheVariants as item
use Rattle.tm_tree.specs.declared.node.LeafRow.TheVariants as leaf
use Rattle.tm_tree.specs.declared.record.ItemBody.{ItemBody}
use Rattle.tm_tree.specs.declared.record.ItemBody.TheVariants as body
use Rattle.tm_tree.specs.Changes.{most_extras}
use Rattle.tm_tree.specs.Extras.{Values, value_of, with_extra}
use Rattle.tm_tree.specs.Items.{attrs_of, with_attrs, stamped, is_folder, exclusion}
use Rattle.tm_tree.specs.Refusing.{first_refused}
use Rattle.tm_changes.specs.Attributes.{attrs_after, attrs_tests, extras_after, count_with, reset_body, body_stamps}
use Rattle.tm_volume_records.specs.Records.{item_with}
use Rattle.tm_volume_records.specs.Rules.{HasData, HasStamp}
use Rattle.tm_base.specs.Limits.{max_extras, max_value_bytes}

-- ---- lists

all_first : {X : Type 0} (P : X → Type 0) (x : X) (xs : List X) → All P (x ∷ xs) → P x
all_first P x xs all = all 0 x (omega arith)

all_rest : {X : Type 0} (P : X → Type 0) (x : X) (xs : List X) → All P (x ∷ xs) → All P xs
all_rest P x xs all k d lt = all (suc k) d (omega (arith, lt))

all_both : {X : Type 0} (P : X → Type 0) (x : X) (xs : List X) → P x → All P xs → All P (x ∷ xs)
all_both P x xs one rest zero d lt = one
all_both P x xs one rest (suc k) d lt = rest k d (omega (arith, lt))

-- ---- an extra more

one_more : (b : Bool) (n m : ℕ) → m ≡ cond b n (n + 1) → suc m ≡ cond b (suc n) (suc n + 1)
one_more true n m h = ap suc h
one_more false n m h = omega (arith, h)

pub length_with : (es : Values) (k v : List ℕ) → IsStrictlySortedBy name_cmp (keys_of es) → length (with_extra k v es) ≡ cond (is_some (value_of k es)) (length es) (length es + 1)
unfolding IsStrictlySortedBy
length_with [] k v s = refl
length_with (e ∷ es) k v s =
    elim (name_cmp k e.0) as (λ r. name_cmp k e.0 ≡ r → length (match_ordering r ((k, v) ∷ e ∷ es) ((e.0, v) ∷ es) (e ∷ insert_entry name_cmp es k v))
    ≡ cond (is_some (cond (is_eq r) (Some e.1) (value_of k es))) (length (e ∷ es)) (length (e ∷ es) + 1)) [
      | Less ↦ λ is.
          let none : value_of k es ≡ None = lookup-none (is_at (name_cmp k)) es (none_below_head nat_list_cmp_total k e es s is).1 in
          subst (λ (o : Option (List ℕ)). length ((k, v) ∷ e ∷ es) ≡ cond (is_some o) (length (e ∷ es)) (length (e ∷ es) + 1)) (sym none) (omega arith)
      | Equal ↦ λ is. refl
      | Greater ↦ λ is. one_more (is_some (value_of k es)) (length es) (length (with_extra k v es)) (length_with es k v s.1)
    ] refl

pub each_with : (es : Values) (k v : List ℕ) → IsName k → length v ≤ max_value_bytes → All IsExtra es → All IsExtra (with_extra k v es)
each_with [] k v name short all = all_both IsExtra (k, v) [] (record { name = name; value = short }) all
each_with (e ∷ es) k v name short all =
    elim (name_cmp k e.0) as (λ r. All IsExtra (match_ordering r ((k, v) ∷ e ∷ es) ((e.0, v) ∷ es) (e ∷ insert_entry name_cmp es k v))) [
      | Less ↦ all_both IsExtra (k, v) (e ∷ es) (record { name = name; value = short }) all
      | Equal ↦ all_both IsExtra (e.0, v) es (record { name = (all_first IsExtra e es all).name; value = short }) (all_rest IsExtra e es all)
      | Greater ↦ all_both IsExtra e (insert_entry name_cmp es k v) (all_first IsExtra e es all) (each_with es k v name short (all_rest IsExtra e es all))
    ]

-- ---- an extra less

pub each_without : (test : List ℕ → Bool) (es : Values) → All IsExtra es → All IsExtra (remove_entry test es)
each_without test [] all = all
each_without test (e ∷ es) all = elim (test e.0) as (λ b. All IsExtra (cond b es (e ∷ remove_entry test es))) [
  | true ↦ all_rest IsExtra e es all
  | false ↦ all_both IsExtra e (remove_entry test es) (all_first IsExtra e es all) (each_without test es (all_rest IsExtra e es all))
]

pub fewer_without : (test : List ℕ → Bool) (es : Values) → length (remove_entry test es) ≤ length es
fewer_without test [] = omega arith
fewer_without test (e ∷ es) = elim (test e.0) as (λ b. length (cond b es (e ∷ remove_entry test es)) ≤ length (e ∷ es)) [
  | true ↦ omega arith
  | false ↦ omega (arith, fewer_without test es)
]

-- ---- what isn't there

missed : {X : Type 0} (b : Bool) (v : X) (o : Option X) → cond b (Some v) o ≡ None → (b ≡ false) × (o ≡ None)
missed true v o h = cc
missed false v o h = (refl, h)

still_none : (q k v : List ℕ) (es : Values) → is_at (name_cmp q) k ≡ false → value_of q es ≡ None → value_of q (with_extra k v es) ≡ None
still_none q k v [] off none = ap (λ b. cond b (Some v) None) off
still_none q k v (e ∷ es) off none =
    let m = missed (is_at (name_cmp q) e.0) e.1 (value_of q es) none in
    elim (name_cmp k e.0) as (λ r. value_of q (match_ordering r ((k, v) ∷ e ∷ es) ((e.0, v) ∷ es) (e ∷ insert_entry name_cmp es k v)) ≡ None) [
      | Less ↦ ap (λ b. cond b (Some v) (value_of q (e ∷ es))) off ∙ none
      | Equal ↦ ap (λ b. cond b (Some v) (value_of q es)) m.0 ∙ m.1
      | Greater ↦ ap (λ b. cond b (Some e.1) (value_of q (with_extra k v es))) m.0 ∙ still_none q k v es off m.1
    ]

gone_none : (q : List ℕ) (test : List ℕ → Bool) (es : Values) → value_of q es ≡ None → value_of q (remove_entry test es) ≡ None
gone_none q test [] none = refl
gone_none q test (e ∷ es) none =
    let m = missed (is_at (name_cmp q) e.0) e.1 (value_of q es) none in
    elim (test e.0) as (λ b. value_of q (cond b es (e ∷ remove_entry test es)) ≡ None) [
      | true ↦ m.1
      | false ↦ ap (λ b. cond b (Some e.1) (value_of q (remove_entry test es))) m.0 ∙ gone_none q test es m.1
    ]

none_of : {X : Type 0} (o : Option X) → is_some o ≡ false → o ≡ None
none_of None h = refl
none_of (Some x) h = cc

-- ---- the root stays included

not_named : (a b : Bool) (one two : Refused) → cond a (Some one) (cond b (Some two) None) ≡ None → b ≡ false
not_named true b one two h = cc
not_named false true one two h = cc
not_named false false one two h = refl

other_name : (name : List ℕ) → same_name name exclusion ≡ false → is_at (name_cmp exclusion) name ≡ false
other_name name off = sym (texts_ties exclusion name) ∙ nat_list_eq_equiv.symm exclusion name ∙ off

abbrev excludes : Attrs → Bool
excludes a = is_some (value_of exclusion a.extra)

pub still_included : (c : Change) (a : Attrs) → excludes a ≡ false → first_refused (attrs_tests c true a) ≡ None → excludes (attrs_after c a) ≡ false
still_included (change.Setx q name value) a out passes =
    let off = not_named (nat_lt most_extras (count_with name a)) (same_name name exclusion) (TooMany (count_with name a)) RootItem passes in
    ap is_some (still_none exclusion name value a.extra (other_name name off) (none_of (value_of exclusion a.extra) out))
still_included (change.Rmx q name) a out passes = ap is_some (gone_none exclusion (is_at (name_cmp name)) a.extra (none_of (value_of exclusion a.extra) out))
still_included other a out passes = out

-- ---- the number of extras

few_with : (n : ℕ) (b : Bool) → cond (nat_lt most_extras n) (Some (TooMany n)) (cond b (Some RootItem) None) ≡ None → n ≤ max_extras
few_with n b h = elim (nat_lt most_extras n) as (λ t. nat_lt most_extras n ≡ t → cond t (Some (TooMany n)) (cond b (Some RootItem) None) ≡ None → n ≤ max_extras) [
  | true ↦ λ is g. cc
  | false ↦ λ is g. not_more n is
] refl h
  where
    not_more : (k : ℕ) → nat_lt max_extras k ≡ false → k ≤ max_extras
    not_more k is = grind (arith, nat_tests)

pub few_after : (c : Change) (root : Bool) (a : Attrs) → length a.extra ≤ max_extras → first_refused (attrs_tests c root a) ≡ None → extras_after c a ≤ max_extras
few_after (change.Setx q name value) root a few passes = few_with (count_with name a) (root && same_name name exclusion) passes
few_after other root a few passes = few

-- ---- an item with other attributes

pub attrs_same : (b : ItemBody) (bytes : List ℕ) → attrs_of (item_with b bytes) ≡ item_attrs b
attrs_same (body.Folder a) bytes = refl
attrs_same (body.Leaf (leaf.File a stamp size)) bytes = refl
attrs_same (body.Leaf (leaf.Link a stamp target)) bytes = refl

abbrev pub set_item : Change → ℕ → Item → Item
set_item c stamp e = stamped stamp (with_attrs (attrs_after c (attrs_of e)) e)

pub set_with : (c : Change) (stamp : ℕ) (b : ItemBody) (bytes : List ℕ) → item_with (reset_body c stamp b) bytes ≡ set_item c stamp (item_with b bytes)
set_with c stamp (body.Folder a) bytes = refl
set_with c stamp (body.Leaf (leaf.File a old size)) bytes = refl
set_with c stamp (body.Leaf (leaf.Link a old target)) bytes = refl

pub set_attrs_of : (c : Change) (stamp : ℕ) (e : Item) → attrs_of (set_item c stamp e) ≡ attrs_after c (attrs_of e)
set_attrs_of c stamp (item.Folder a) = refl
set_attrs_of c stamp (item.File a old bytes) = refl
set_attrs_of c stamp (item.Link a old target) = refl

pub set_folder : (c : Change) (stamp : ℕ) (e : Item) → is_folder (set_item c stamp e) ≡ is_folder e
set_folder c stamp (item.Folder a) = refl
set_folder c stamp (item.File a old bytes) = refl
set_folder c stamp (item.Link a old target) = refl

pub stamps_by : (b : ItemBody) (bytes : List ℕ) → (if is_folder (item_with b bytes) then 0 else 1) ≡ body_stamps b
stamps_by (body.Folder a) bytes = refl
stamps_by (body.Leaf (leaf.File a stamp size)) bytes = refl
stamps_by (body.Leaf (leaf.Link a stamp target)) bytes = refl

-- ---- its record

pub reset_size : (c : Change) (stamp size : ℕ) (b : ItemBody) → HasItemSize size b → HasItemSize size (reset_body c stamp b)
reset_size c stamp size (body.Folder a) h = h
reset_size c stamp size (body.Leaf (leaf.File a old count)) h = h
reset_size c stamp size (body.Leaf (leaf.Link a old target)) h = h

pub reset_tail : (c : Change) (stamp : ℕ) (b : ItemBody) → stamp < 2 ^ 64 → IsItemTail b → IsItemTail (reset_body c stamp b)
reset_tail c stamp (body.Folder a) low h = h
reset_tail c stamp (body.Leaf (leaf.File a old count)) low h = low
reset_tail c stamp (body.Leaf (leaf.Link a old target)) low h = (low, h.1)

pub reset_data : (c : Change) (stamp size : ℕ) (b : ItemBody) → HasData b size → HasData (reset_body c stamp b) size
reset_data c stamp size (body.Folder a) h = h
reset_data c stamp size (body.Leaf (leaf.File a old count)) h = h
reset_data c stamp size (body.Leaf (leaf.Link a old target)) h = h

pub reset_stamp : (c : Change) (stamp next : ℕ) (b : ItemBody) → 1 ≤ stamp → stamp + body_stamps b ≤ next → HasStamp next (reset_body c stamp b)
reset_stamp c stamp next (body.Folder a) low more = tt
reset_stamp c stamp next (body.Leaf (leaf.File a old count)) low more = (low, omega (arith, more))
reset_stamp c stamp next (body.Leaf (leaf.Link a old target)) low more = (low, omega (arith, more))
