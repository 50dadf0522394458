-- Items that are read by rising number: their positions, and the tests of their places.
use Rattle.std.proofs.Common.{◌≡◌, ⊎_elim, inl, inr, ℕ, ◌+◌, ◌-◌, ◌<◌, ◌≤◌, ◌==◌, Bool, true, false, not, ◌&&◌, List, Option, Some, None, is_some, Result, Ok, Err, refl, sym, ◌∙◌, ap, subst, arith}
use Rattle.std.specs.Option.{option_map, IsSome}
use Rattle.std.specs.Result.{IfOk}
use Rattle.std.proofs.lemmas.Bool.{cases_lt}
use Rattle.std.proofs.lemmas.Option.{slice_get_past}
use Rattle.tm_image.specs.Reads.{entry_of}
use Rattle.tm_items.specs.Index.{Numbers, IsLoaded, SetsAt}
use Rattle.tm_items.specs.Placings.{Placed, Items}
use Rattle.tm_items.specs.Places.{at_name, place_of}
use Rattle.tm_items.specs.Rules.{is_folder_placed, is_root_placed, climbs, FollowsRules}
use Rattle.tm_items.proofs.Loading.{climbs_root, climbs_none, climbs_up, climbs_end, load_skips, load_takes, folder_breaks, depth_breaks, name_breaks, place_breaks}
use Rattle.tm_nodes.specs.Records.{item_of}
use Rattle.tm_records.specs.declared.record.Record.{Record}
use Rattle.tm_records.specs.Records.{Records, at}
use Rattle.tm_tree.specs.Items.{is_folder, is_excluded}
use Rattle.tm_tree.specs.declared.node.LeafRow.TheVariants as leaf
use Rattle.tm_tree.specs.declared.record.ItemBody.{ItemBody}
use Rattle.tm_tree.specs.declared.record.ItemBody.TheVariants as body
use Rattle.tm_tree.specs.declared.record.ItemRow.{ItemRow}
use Rattle.tm_volume_records.specs.declared.positions.Position.{Position}
use Rattle.tm_volume_records.specs.Loads.{row_of_record, row_in, is_folder_body, position_of_row, position_of, position_or, position_at, is_folder_position, is_root_body, is_root_row, items_from, ArePositions, ArePositionsBelow}
use Rattle.tm_volume_records.specs.Records.{item_key, item_with, placed_with, placed_of}
use Rattle.tm_volume_records.proofs.Entering.{data_length}
use Rattle.tm_volume_records.proofs.Slots.{Rising, placed_rec, items_at, items_out}
use Rattle.tm_base.specs.Limits.{max_items, max_names}

pub if_ok : {T E : Type 0} (r : Result T E) (P Q R : T → Type 0) → ((x : T) → P x → Q x → R x) → IfOk r P → IfOk r Q → IfOk r R
if_ok (Ok x) P Q R f p q = f x p q
if_ok (Err e) P Q R f p q = tt

-- ---- a row and the item that it is

folder_same : (b : ItemBody) (bytes : List ℕ) → is_folder (item_with b bytes) ≡ is_folder_body b
folder_same (body.Folder attrs) bytes = refl
folder_same (body.Leaf (leaf.File attrs stamp size)) bytes = refl
folder_same (body.Leaf (leaf.Link attrs stamp target)) bytes = refl

root_same : (b : ItemBody) (bytes : List ℕ) → (is_folder (item_with b bytes) && not (is_excluded (item_with b bytes))) ≡ is_root_body b
root_same (body.Folder attrs) bytes = refl
root_same (body.Leaf (leaf.File attrs stamp size)) bytes = refl
root_same (body.Leaf (leaf.Link attrs stamp target)) bytes = refl

-- the item of a row, whose data are these
placed_row_of : (bytes : ℕ → List ℕ) (r : Record) → placed_of (entry_of bytes r) ≡ option_map (placed_with (entry_of bytes r).bytes) (item_of r.meta r.length)
placed_row_of bytes r = ap (λ n. option_map (placed_with (entry_of bytes r).bytes) (item_of r.meta n)) (data_length bytes r)

position_same : (bytes : List ℕ) (row : Option ItemRow) → option_map position_of (option_map (placed_with bytes) row) ≡ option_map position_of_row row
position_same bytes None = refl
position_same bytes (Some row) = ap (λ b. Some (record { parent = row.parent; name = row.name; is_folder = b })) (folder_same row.body bytes)

position_of_rec : (bytes : ℕ → List ℕ) (o : Option Record) → option_map position_of (placed_rec bytes o) ≡ option_map position_of_row (row_of_record o)
position_of_rec bytes None = refl
position_of_rec bytes (Some r) = ap (option_map position_of) (placed_row_of bytes r) ∙ position_same (entry_of bytes r).bytes (item_of r.meta r.length)

and_assoc : (a b c d : Bool) → (a && b && c && d) ≡ (a && b && (c && d))
and_assoc true true c d = refl
and_assoc true false c d = refl
and_assoc false b c d = refl

root_of_rec : (bytes : ℕ → List ℕ) (o : Option Record) → is_root_placed (placed_rec bytes o) ≡ is_root_row (row_of_record o)
root_of_rec bytes None = refl
root_of_rec bytes (Some r) = ap is_root_placed (placed_row_of bytes r) ∙ of_row (item_of r.meta r.length)
  where
    of_row : (row : Option ItemRow) → is_root_placed (option_map (placed_with (entry_of bytes r).bytes) row) ≡ is_root_row row
    of_row None = refl
    of_row (Some row) =
        let e = item_with row.body (entry_of bytes r).bytes in
        and_assoc (row.parent == 0) (not (is_some row.name)) (is_folder e) (not (is_excluded e)) ∙ ap (λ b. (row.parent == 0) && not (is_some row.name) && b) (root_same row.body (entry_of bytes r).bytes)

-- ---- positions

pub position_none : (items : Items) (positions : List (Option Position)) → ArePositions items positions → (n : ℕ) → position_at positions n ≡ None → items n ≡ None
position_none items positions are n is = of_item (items n) (sym is ∙ are.each n)
  where
    of_item : (o : Option Placed) → None ≡ option_map position_of o → o ≡ None
    of_item None h = refl
    of_item (Some x) h = cc

-- an item and its position
pub record HasPosition (items : Items) (n : ℕ) (position : Position) : Type 0 where
  pub placed : Placed
  pub is : items n ≡ Some placed
  pub parent : placed.parent ≡ position.parent
  pub name : placed.name ≡ position.name
  pub folder : is_folder placed.item ≡ position.is_folder

pub position_some : (items : Items) (positions : List (Option Position)) → ArePositions items positions → (n : ℕ) (position : Position) → position_at positions n ≡ Some position → HasPosition items n position
position_some items positions are n position is = of_item (items n) refl (sym is ∙ are.each n)
  where
    of_item : (o : Option Placed) → items n ≡ o → Some position ≡ option_map position_of o → HasPosition items n position
    of_item None e h = cc
    of_item (Some x) e h = let same : position ≡ position_of x = cc in record { placed = x; is = e; parent = ap (λ (s : Position). s.parent) (sym same); name = ap (λ (s : Position). s.name) (sym same); folder = ap (λ (s : Position). s.is_folder) (sym same) }

pub folder_position : (items : Items) (positions : List (Option Position)) → ArePositions items positions → (n : ℕ) → is_folder_position (position_at positions n) ≡ is_folder_placed (items n)
folder_position items positions are n = ap is_folder_position (are.each n) ∙ of_item (items n)
  where
    of_item : (o : Option Placed) → is_folder_position (option_map position_of o) ≡ is_folder_placed o
    of_item None = refl
    of_item (Some x) = refl

module _ (records : Records) (rising : Rising records) (bytes : ℕ → List ℕ) where
  pub are_positions : (positions : List (Option Position)) → ArePositionsBelow records (max_items + 1) positions → ArePositions (items_from records bytes) positions
  are_positions positions below = record { each = each }
    where
      each : (n : ℕ) → position_at positions n ≡ option_map position_of (items_from records bytes n)
      each n = ⊎_elim
          (λ (zero_is : n < 1). let e : n ≡ 0 = omega (arith, zero_is) in ap (position_at positions) e ∙ below.none ∙ ap (option_map position_of) (sym (items_out bytes records n (inl zero_is))))
          (λ (least : 1 ≤ n). ⊎_elim
          (λ (lt : n < max_items + 1). below.each n least lt ∙ sym (position_of_rec bytes (at (item_key n) records)) ∙ ap (option_map position_of) (sym (items_at bytes records n least (omega (arith, lt)) rising)))
          (λ (high : max_items + 1 ≤ n). ap position_or (slice_get_past positions n (omega (arith, below.many, high))) ∙ ap (option_map position_of) (sym (items_out bytes records n (inr (omega (arith, high))))))
          (cases_lt n (max_items + 1)))
          (cases_lt n 1)

  pub root_is : is_root_placed (items_from records bytes 1) ≡ is_root_row (row_in records 1)
  root_is = ap is_root_placed (items_at bytes records 1 (omega arith) (omega arith) rising) ∙ root_of_rec bytes (at (item_key 1) records)

  -- ---- a number more

  module _ (positions : List (Option Position)) (below : ArePositionsBelow records (max_items + 1) positions) (n : ℕ) (least : 2 ≤ n) (most : n ≤ max_items) (numbers : Numbers) (loaded : IsLoaded (items_from records bytes) n numbers) where
    pub skips : position_at positions n ≡ None → IsLoaded (items_from records bytes) (n + 1) numbers
    skips none = load_skips (items_from records bytes) n numbers loaded least (position_none (items_from records bytes) positions (are_positions positions below) n none)

    module _ (position : Position) (is : position_at positions n ≡ Some position) where
      has : HasPosition (items_from records bytes) n position
      has = position_some (items_from records bytes) positions (are_positions positions below) n position is

      in_folder : is_folder_placed (items_from records bytes has.placed.parent) ≡ is_folder_position (position_at positions position.parent)
      in_folder = ap (λ k. is_folder_placed (items_from records bytes k)) has.parent ∙ sym (folder_position (items_from records bytes) positions (are_positions positions below) position.parent)

      pub no_folder : is_folder_position (position_at positions position.parent) ≡ false → ¬ FollowsRules (items_from records bytes) n
      no_folder h = folder_breaks (items_from records bytes) n has.placed least has.is (in_folder ∙ h)

      pub too_deep : climbs max_names (items_from records bytes) n ≡ false → ¬ FollowsRules (items_from records bytes) n
      too_deep h = depth_breaks (items_from records bytes) n has.placed least has.is h

      pub no_name : position.name ≡ None → ¬ FollowsRules (items_from records bytes) n
      no_name none = name_breaks (items_from records bytes) n has.placed least has.is (has.name ∙ none)

      module _ (name : List ℕ) (called : position.name ≡ Some name) where
        place_is : at_name position.parent name ≡ place_of has.placed
        place_is = let p = has.parent in let q = has.name ∙ called in λ i. record { parent = sym p i; name = sym q i }

        pub no_place : IsSome (numbers (at_name position.parent name)) → ¬ FollowsRules (items_from records bytes) n
        no_place some = of_number (numbers (place_of has.placed)) refl (subst (λ p. IsSome (numbers p)) place_is some)
          where
            of_number : (o : Option ℕ) → numbers (place_of has.placed) ≡ o → IsSome o → ¬ FollowsRules (items_from records bytes) n
            of_number None e s = cc
            of_number (Some k) e s = place_breaks (items_from records bytes) n k has.placed numbers loaded least has.is e

        pub takes : (new : Numbers) → is_folder_position (position_at positions position.parent) ≡ true → climbs max_names (items_from records bytes) n ≡ true → numbers (at_name position.parent name) ≡ None
            → SetsAt (at_name position.parent name) (Some n) numbers new → IsLoaded (items_from records bytes) (n + 1) new
        takes new folder near free sets = load_takes (items_from records bytes) n has.placed numbers new loaded least has.is (in_folder ∙ folder) near
            (ap is_some (has.name ∙ called)) (ap numbers (sym place_is) ∙ free) (subst (λ p. SetsAt p (Some n) numbers new) place_is sets)

-- ---- the walk over parents

module _ (items : Items) (positions : List (Option Position)) (are : ArePositions items positions) (number at step : ℕ) (so_far : climbs max_names items number ≡ climbs (max_names - step) items at) where
  pub walk_here : at ≡ 1 → true ≡ climbs max_names items number
  walk_here h = sym (so_far ∙ climbs_root items (max_names - step) at h)

  pub walk_stops : (at ≡ 1 → ⊥) → position_at positions at ≡ None → false ≡ climbs max_names items number
  walk_stops h none = sym (so_far ∙ climbs_none items (max_names - step) at h (position_none items positions are at none))

  pub walk_more : step < max_names → (at ≡ 1 → ⊥) → (position : Position) → position_at positions at ≡ Some position → climbs max_names items number ≡ climbs (max_names - (step + 1)) items position.parent
  walk_more low h position some =
      let s = position_some items positions are at position some in
      so_far ∙ climbs_up items step at s.placed low h s.is ∙ ap (climbs (max_names - (step + 1)) items) s.parent

  pub walk_ends : max_names ≤ step → (at == 1) ≡ climbs max_names items number
  walk_ends h = sym (so_far ∙ climbs_end items (max_names - step) at (omega (arith, h)))
