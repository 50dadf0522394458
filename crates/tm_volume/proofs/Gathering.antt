-- The tree of all items, put together by rising number.
use Rattle.std.proofs.Common.{◌≡◌, ◌⊎◌, ⊎_elim, inl, inr, ℕ, zero, suc, ◌+◌, ◌-◌, ◌<◌, ◌≤◌, nat_le, ◌==◌, ◌^◌, true, false, cond, List, [], ◌∷◌, length, filter, refl, sym, ap, ◌∙◌, subst, Option, Some, None, IsSome, arith}
use Rattle.std.proofs.lemmas.Bool.{cases_lt}
use Rattle.std.proofs.lemmas.Bool.Decides.{nat_tests}
use Rattle.std.proofs.lemmas.Option.{same_Some}
use Rattle.std.specs.BTreeMap.{is_at}
use Rattle.std.specs.List.Sorted.{IsStrictlySortedBy}
use Rattle.std.specs.Ordering.{nat_cmp}
use Rattle.std.specs.declared.cmp.Ordering.TheVariants.{Less}
use Rattle.tm_base.specs.Paths.{Names}
use Rattle.tm_items.specs.Computed.{Placings, items_of, AreNumbered, path_on, path_to, placed_rows, tree_of, under}
use Rattle.tm_items.specs.Placings.{Placed, Items}
use Rattle.tm_items.specs.Rules.{is_folder_placed, IsSound}
use Rattle.tm_items.proofs.Reading.{number_decides, above, among_from}
use Rattle.std.specs.Option.{option_map}
use Rattle.tm_chain.specs.Blob.{bytes_in}
use Rattle.tm_records.specs.Records.{Records, at}
use Rattle.tm_records.specs.declared.record.Record.{Record}
use Rattle.tm_tree.specs.Trees.{Tree, put_all}
use Rattle.tm_tree.specs.declared.attrs.Attrs.{Attrs}
use Rattle.tm_tree.specs.declared.item.Item.TheVariants as item
use Rattle.tm_tree.specs.declared.node.LeafRow.{LeafRow}
use Rattle.tm_tree.specs.declared.node.LeafRow.TheVariants as leaf
use Rattle.tm_tree.specs.declared.record.ItemBody.{ItemBody}
use Rattle.tm_tree.specs.declared.record.ItemBody.TheVariants as body
use Rattle.tm_tree.specs.declared.record.ItemRow.{ItemRow}
use Rattle.tm_world.specs.Outside.{Outside, disk}
use Rattle.tm_world.specs.declared.world.Side.TheVariants.{Volume}
use Rattle.tm_volume_records.specs.Records.{item_key, item_with, placed_with, items_in, IsThere}
use Rattle.tm_volume.specs.Room.{body_of, placed_row}
use Rattle.tm_volume.proofs.Rows.{HasRow, has_row, data_length}
use Rattle.tm_volume.proofs.Finding.{IsRowAt}
use Rattle.tm_volume.specs.Listed.{AddsItem}
use Rattle.tm_volume_records.proofs.Slots.{Rising, at_itself, items_at, once_there, is_less, placed_rec, placings_on, numbered_on, items_out}
use Rattle.tm_base.proofs.Facts.{none_some}
use Rattle.tm_base.specs.Limits.{max_items}

-- the items from a number on
abbrev pub from : ℕ → Placings → Placings
from n placings = filter (λ e. nat_le n e.0) placings

-- the items below n are in the tree, and those from n on still to be put
pub record HasBelow (placings : Placings) (n : ℕ) (t : Tree) : Type 0 where
  pub more : put_all t (placed_rows (items_of placings) (from n placings)) ≡ tree_of placings

-- ---- a list from a number on

same_from : (n k : ℕ) → (is_at (nat_cmp n) k ≡ false) → nat_le n k ≡ nat_le (n + 1) k
same_from n k off = ⊎_elim
    (λ (lt : n < k). let a : nat_le n k ≡ true = grind (arith, nat_tests) in let b : nat_le (n + 1) k ≡ true = grind (arith, nat_tests) in a ∙ sym b)
    (λ (le : k ≤ n). let ne : n ≡ k → ⊥ = λ e. truths (sym off ∙ (number_decides n k).1 e) in
    let a : nat_le n k ≡ false = grind (arith, nat_tests) in let b : nat_le (n + 1) k ≡ false = grind (arith, nat_tests) in a ∙ sym b)
    (cases_lt n k)
  where
    truths : {P : Type 0} → false ≡ true → P
    truths h = cc

behind_none : (n : ℕ) (e : ℕ × Placed) (es : Placings) → items_of (e ∷ es) n ≡ None → (is_at (nat_cmp n) e.0 ≡ false) × (items_of es n ≡ None)
behind_none n e es none = elim (is_at (nat_cmp n) e.0) as (λ b. cond b (Some e.1) (items_of es n) ≡ None → (b ≡ false) × (items_of es n ≡ None)) [
  | true ↦ λ h. none_some (sym h)
  | false ↦ λ h. (refl, h)
] none

-- nothing stands under n
from_none : (n : ℕ) (es : Placings) → items_of es n ≡ None → from n es ≡ from (n + 1) es
from_none n [] none = refl
from_none n (e ∷ es) none =
    let parts = behind_none n e es none in
    let same = same_from n e.0 parts.0 in
    let more = from_none n es parts.1 in
    λ i. cond (same i) (e ∷ more i) (more i)

-- x stands under n
from_some : (n : ℕ) (es : Placings) (x : Placed) → AreNumbered es → items_of es n ≡ Some x → from n es ≡ (n, x) ∷ from (n + 1) es
unfolding IsStrictlySortedBy
from_some n [] x sorted some = none_some some
from_some n (e ∷ es) x sorted some = elim (is_at (nat_cmp n) e.0) as (λ b. is_at (nat_cmp n) e.0 ≡ b → cond b (Some e.1) (items_of es n) ≡ Some x → from n (e ∷ es) ≡ (n, x) ∷ from (n + 1) (e ∷ es)) [
  | true ↦ λ here is.
      let n_is : n ≡ e.0 = (number_decides n e.0).0 here in
      let x_is : e.1 ≡ x = same_Some e.1 x is in
      let le : nat_le n e.0 ≡ true = grind (arith, nat_tests) in
      let above : nat_le (n + 1) e.0 ≡ false = grind (arith, nat_tests) in
      let more : from n es ≡ from (n + 1) es = from_none n es (once_there n e es sorted here) in
      ap (λ b. cond b (e ∷ from n es) (from n es)) le ∙ (λ i. (sym n_is i, x_is i) ∷ more i)
      ∙ ap (λ (rest : Placings). (n, x) ∷ rest) (sym (ap (λ b. cond b (e ∷ from (n + 1) es) (from (n + 1) es)) above))
  | false ↦ λ off is.
      let low : e.0 < n = is_less e.0 n (above (λ k. nat_cmp e.0 k ≡ Less) es n x sorted.0 (among_from es n x is)) in
      let a : nat_le n e.0 ≡ false = grind (arith, nat_tests) in
      let b : nat_le (n + 1) e.0 ≡ false = grind (arith, nat_tests) in
      ap (λ b. cond b (e ∷ from n es) (from n es)) a ∙ from_some n es x sorted.1 is
      ∙ ap (λ (rest : Placings). (n, x) ∷ rest) (sym (ap (λ b. cond b (e ∷ from (n + 1) es) (from (n + 1) es)) b))
] refl some

from_all : (es : Placings) → from 0 es ≡ es
from_all [] = refl
from_all (e ∷ es) =
    let le : nat_le 0 e.0 ≡ true = grind (arith, nat_tests) in
    ap (λ b. cond b (e ∷ from 0 es) (from 0 es)) le ∙ ap (λ (rest : Placings). e ∷ rest) (from_all es)

from_past : (n : ℕ) (es : Placings) → ((m : ℕ) → n ≤ m → items_of es m ≡ None) → from n es ≡ []
from_past n [] past = refl
from_past n (e ∷ es) past =
    let more : from n es ≡ [] = from_past n es (λ m le. (behind_none m e es (past m le)).1) in
    elim (nat_le n e.0) as (λ b. nat_le n e.0 ≡ b → cond b (e ∷ from n es) (from n es) ≡ []) [
      | true ↦ λ is. let le : n ≤ e.0 = grind (arith, nat_tests) in clash (sym (at_itself e.0) ∙ (behind_none e.0 e es (past e.0 le)).0)
      | false ↦ λ is. more
    ] refl
  where
    clash : {P : Type 0} → true ≡ false → P
    clash h = cc

-- ---- the tree

pub below_starts : (placings : Placings) → items_of placings 0 ≡ None → HasBelow placings 1 []
unfolding tree_of
below_starts placings none = record {
  more = ap (λ (es : Placings). put_all [] (placed_rows (items_of placings) es)) (sym (from_none 0 placings none) ∙ from_all placings);
}

-- the next number
pub below_more : (placings : Placings) (n : ℕ) (t u : Tree) → AreNumbered placings → HasBelow placings n t → AddsItem (items_of placings) n t u → HasBelow placings (n + 1) u
below_more placings n t u sorted below adds = by_item (items_of placings n) refl
  where
    by_item : (o : Option Placed) → items_of placings n ≡ o → HasBelow placings (n + 1) u
    by_item None none = record {
      more = ap (λ (v : Tree). put_all v (placed_rows (items_of placings) (from (n + 1) placings))) (adds.nowhere none)
          ∙ ap (λ (es : Placings). put_all t (placed_rows (items_of placings) es)) (sym (from_none n placings none)) ∙ below.more;
    }
    by_item (Some x) some = record {
      more = ap (λ (v : Tree). put_all v (placed_rows (items_of placings) (from (n + 1) placings))) (adds.there x some)
          ∙ ap (λ (es : Placings). put_all t (placed_rows (items_of placings) es)) (sym (from_some n placings x sorted some)) ∙ below.more;
    }

pub below_ends : (placings : Placings) (n : ℕ) (t : Tree) → HasBelow placings n t → ((m : ℕ) → n ≤ m → items_of placings m ≡ None) → t ≡ tree_of placings
below_ends placings n t below past = ap (λ (es : Placings). put_all t (placed_rows (items_of placings) es)) (sym (from_past n placings past)) ∙ below.more

-- ---- the loop over all numbers

module _ (records : Records) (rising : Rising records) where
  pub gathering_starts : (bytes : ℕ → List ℕ) (t : Tree) → t ≡ [] → HasBelow (placings_on bytes records) 1 t
  gathering_starts bytes t none = subst (λ (u : Tree). HasBelow (placings_on bytes records) 1 u) (sym none) (below_starts (placings_on bytes records) (items_out bytes records 0 (inl (omega arith))))

  pub gathering_goes_on : (start here : Outside) (n : ℕ) (t u : Tree) → here ≡ start → HasBelow (placings_on (disk Volume start).bytes records) n t
      → AddsItem (items_in records (disk Volume here).bytes) n t u → HasBelow (placings_on (disk Volume start).bytes records) (n + 1) u
  gathering_goes_on start here n t u same below adds =
      below_more (placings_on (disk Volume start).bytes records) n t u (numbered_on (disk Volume start).bytes records rising) below
      (subst (λ (s : Outside). AddsItem (items_in records (disk Volume s).bytes) n t u) same adds)

  -- the numbers from n to before k are left out, under which nothing stands
  pub gathering_skips : (bytes : ℕ → List ℕ) (n k : ℕ) (t : Tree) → n ≤ k → ((m : ℕ) → n ≤ m → m < k → items_in records bytes m ≡ None) → HasBelow (placings_on bytes records) n t
      → HasBelow (placings_on bytes records) k t
  gathering_skips bytes n k t le none below = record {
    more = ap (λ (es : Placings). put_all t (placed_rows (items_of (placings_on bytes records)) es)) (sym (from_gap n (k - n) (omega arith) (placings_on bytes records) none)) ∙ below.more;
  }
    where
      from_gap : (a d : ℕ) → a + d ≡ k → (es : Placings) → ((m : ℕ) → a ≤ m → m < k → items_of es m ≡ None) → from a es ≡ from k es
      from_gap a zero is es gap = let same : a ≡ k = omega arith in ap (λ x. from x es) same
      from_gap a (suc d) is es gap = from_none a es (gap a (omega arith) (omega arith)) ∙ from_gap (a + 1) d (omega arith) es (λ m low high. gap m (omega arith) high)

  pub gathering_ends : (bytes : ℕ → List ℕ) (n : ℕ) (t : Tree) → ((m : ℕ) → n ≤ m → items_in records bytes m ≡ None) → HasBelow (placings_on bytes records) n t → t ≡ tree_of (placings_on bytes records)
  gathering_ends bytes n t none below = below_ends (placings_on bytes records) n t below none

  -- no record, no item
  pub nothing_there : (bytes : ℕ → List ℕ) (m : ℕ) → 1 ≤ m → at (item_key m) records ≡ None → items_in records bytes m ≡ None
  nothing_there bytes m low none = ⊎_elim (λ (high : max_items < m). items_out bytes records m (inr high)) (λ (le : m ≤ max_items). items_at bytes records m low le rising ∙ ap (placed_rec bytes) none) (cases_lt max_items m)

  -- the least key is above all items
  pub nothing_up_to : (bytes : ℕ → List ℕ) (key m : ℕ) → 1 ≤ m → max_items < key - 2 ^ 62 → (item_key m < key → at (item_key m) records ≡ None) → items_in records bytes m ≡ None
  nothing_up_to bytes key m low high none = ⊎_elim (λ (out : max_items < m). items_out bytes records m (inr out)) (λ (le : m ≤ max_items). nothing_there bytes m low (none (omega (arith, le, high)))) (cases_lt max_items m)

-- ---- an item with its bytes

file_with : (b : ItemBody) (bytes : List ℕ) (attrs : Attrs) (stamp len : ℕ) → body_of (item_with b bytes) ≡ body.Leaf (leaf.File attrs stamp len)
    → (item_with b bytes ≡ item.File attrs stamp bytes) × (length bytes ≡ len)
file_with (body.Folder a) bytes attrs stamp len is = cc
file_with (body.Leaf (leaf.File a s count)) bytes attrs stamp len is =
    let attrs_are : a ≡ attrs = cc in
    let stamp_is : s ≡ stamp = cc in
    let len_is : length bytes ≡ len = cc in
    ((λ i. item.File (attrs_are i) (stamp_is i) bytes), len_is)
file_with (body.Leaf (leaf.Link a s target)) bytes attrs stamp len is = cc

module _ (records : Records) (rising : Rising records) (n : ℕ) (row : ItemRow) (is : IsRowAt records n row) where
  some_mapped : {X Y : Type 0} (f : X → Y) (o : Option X) (y : Y) → option_map f o ≡ Some y → IsSome o
  some_mapped f None y h = cc
  some_mapped f (Some x) y h = refl

  is_there : IsThere records n
  is_there bytes = some_mapped placed_row (items_in records bytes n) row (is bytes)

  own_row : HasRow records n
  own_row = has_row records rising n is_there

  own_body : (bytes : ℕ → List ℕ) → body_of (item_with own_row.row.body (bytes_in own_row.rec.blocks bytes 0 own_row.rec.length)) ≡ row.body
  own_body bytes = ap (λ (r : ItemRow). r.body) (same_Some (placed_row (placed_with (bytes_in own_row.rec.blocks bytes 0 own_row.rec.length) own_row.row)) row
      (sym (ap (λ (o : Option Placed). option_map placed_row o) (own_row.placed bytes)) ∙ is bytes))

  module _ (leaf_is : LeafRow) (attrs : Attrs) (stamp len : ℕ) (body_is : row.body ≡ body.Leaf leaf_is) (file : leaf_is ≡ leaf.File attrs stamp len) where
    file_parts : (bytes : ℕ → List ℕ) → (item_with own_row.row.body (bytes_in own_row.rec.blocks bytes 0 own_row.rec.length) ≡ item.File attrs stamp (bytes_in own_row.rec.blocks bytes 0 own_row.rec.length))
        × (length (bytes_in own_row.rec.blocks bytes 0 own_row.rec.length) ≡ len)
    file_parts bytes = file_with own_row.row.body (bytes_in own_row.rec.blocks bytes 0 own_row.rec.length) attrs stamp len (own_body bytes ∙ body_is ∙ ap body.Leaf file)

    pub file_count : option_map (λ r. r.length) (at (item_key n) records) ≡ Some len
    file_count = ap (λ (o : Option Record). option_map (λ (r : Record). r.length) o) own_row.at_key
        ∙ ap Some (sym (data_length (λ b. []) own_row.rec) ∙ (file_parts (λ b. [])).1)

    pub file_item : (bytes : ℕ → List ℕ) (read : List ℕ) → option_map (λ r. bytes_in r.blocks bytes 0 r.length) (at (item_key n) records) ≡ Some read
        → option_map (λ x. x.item) (items_in records bytes n) ≡ Some (item.File attrs stamp read)
    file_item bytes read data_is =
        let same : bytes_in own_row.rec.blocks bytes 0 own_row.rec.length ≡ read = same_Some (bytes_in own_row.rec.blocks bytes 0 own_row.rec.length) read
        (sym (ap (λ (o : Option Record). option_map (λ (r : Record). bytes_in r.blocks bytes 0 r.length) o) own_row.at_key) ∙ data_is) in
        ap (λ (o : Option Placed). option_map (λ (x : Placed). x.item) o) (own_row.placed bytes)
        ∙ ap Some ((file_parts bytes).0 ∙ ap (λ (b : List ℕ). item.File attrs stamp b) same)

-- ---- the path of an item

pub path_root : (steps n : ℕ) (items : Items) → (n ≡ 1) ⊎ (steps ≡ 0) → [] ≡ path_to steps items n
unfolding path_to
path_root zero n items either = refl
path_root (suc k) n items (inl one) = let is : (n == 1) ≡ true = grind (arith, nat_tests) in rw is refl
path_root (suc k) n items (inr none) = absurd (omega arith)

path_up : (steps n : ℕ) (items : Items) (x : Placed) → 0 < steps → (n ≡ 1 → ⊥) → items n ≡ Some x → path_to steps items n ≡ under (path_to (steps - 1) items x.parent) x.name
unfolding path_to
path_up zero n items x low off is = absurd (omega arith)
path_up (suc k) n items x low off is =
    let other : (n == 1) ≡ false = grind (arith, nat_tests) in
    let before : k ≡ suc k - 1 = omega arith in
    rw other (ap (λ (o : Option Placed). path_on o (path_to k items)) is ∙ ap (λ (j : ℕ). under (path_to j items x.parent) x.name) before)

module _ (records : Records) (n : ℕ) (row : ItemRow) (is : IsRowAt records n row) (off : n ≡ 1 → ⊥) where
  placed_at : (bytes : ℕ → List ℕ) (o : Option Placed) → option_map placed_row o ≡ Some row → (x : Placed) × (o ≡ Some x) × (x.parent ≡ row.parent) × (x.name ≡ row.name)
  placed_at bytes None h = none_some h
  placed_at bytes (Some x) h = let same = same_Some (placed_row x) row h in (x, refl, ap (λ (r : ItemRow). r.parent) same, ap (λ (r : ItemRow). r.name) same)

  pub parent_there : ((bytes : ℕ → List ℕ) → IsSound (items_in records bytes)) → IsThere records row.parent
  parent_there sound bytes =
      let p = placed_at bytes (items_in records bytes n) (is bytes) in
      let other : (n == 1) ≡ false = grind (arith, nat_tests) in
      let folder : is_folder_placed (items_in records bytes p.0.parent) ≡ true = ((sound bytes n).placed p.0 p.1 other).in_folder in
      folder_there (items_in records bytes row.parent) (subst (λ (k : ℕ). is_folder_placed (items_in records bytes k) ≡ true) p.2 folder)
    where
      folder_there : (o : Option Placed) → is_folder_placed o ≡ true → IsSome o
      folder_there None h = cc
      folder_there (Some x) h = refl

  pub path_over : (steps : ℕ) (up path : Names) → 0 < steps → ((bytes : ℕ → List ℕ) → up ≡ path_to (steps - 1) (items_in records bytes) row.parent) → path ≡ under up row.name
      → (bytes : ℕ → List ℕ) → path ≡ path_to steps (items_in records bytes) n
  path_over steps up path low ups path_is bytes =
      let p = placed_at bytes (items_in records bytes n) (is bytes) in
      path_is ∙ ap (λ (q : Names). under q row.name) (ups bytes)
      ∙ sym (path_up steps n (items_in records bytes) p.0 low off p.1 ∙ (λ i. under (path_to (steps - 1) (items_in records bytes) (p.2 i)) (p.3 i)))
