-- The item whose attributes are set, as its record says it, and what the change of them draws.
use Rattle.std.proofs.Common.{◌≡◌, ℕ, ◌+◌, ◌<◌, ◌≤◌, ◌^◌, List, length, sym, ap, ◌∙◌, Option, Some, None, is_some, Ok, IsSome, refl, arith}
use Rattle.std.specs.Option.{option_map}
use Rattle.tm_base.specs.Paths.{Names, is_root}
use Rattle.tm_base.specs.declared.refused.Refused.{Refused}
use Rattle.tm_base.specs.declared.refused.Refused.TheVariants.{IdsSpent}
use Rattle.tm_image.specs.Reads.{entry_of}
use Rattle.tm_items.specs.Finding.{FoundAt}
use Rattle.tm_items.specs.Index.{Numbers}
use Rattle.tm_items.specs.Placings.{Placed}
use Rattle.tm_nodes.specs.Items.{item_attrs, IsItemRow}
use Rattle.tm_tree.specs.declared.attrs.Attrs.{Attrs}
use Rattle.tm_tree.specs.declared.change.Change.{Change}
use Rattle.tm_tree.specs.declared.item.Item.{Item}
use Rattle.tm_tree.specs.declared.record.ItemRow.{ItemRow}
use Rattle.tm_tree.specs.declared.rows.Touch.{Touch}
use Rattle.tm_tree.specs.Changes.{tests}
use Rattle.tm_tree.specs.Refusing.{first_refused}
use Rattle.tm_tree.specs.Touches.{numbers, stamps, touches}
use Rattle.tm_tree.specs.Trees.{item_at}
use Rattle.tm_tree.specs.Walks.{walk}
use Rattle.tm_changes.specs.Attributes.{SetsAttrs, attrs_tests, body_stamps, extras_after}
use Rattle.tm_changes.specs.Placing.{IsRowAt}
use Rattle.tm_volume.specs.Room.{placed_row}
use Rattle.tm_volume.specs.Seen.{Seen, items_on, tree_on, volume_on}
use Rattle.tm_volume_records.specs.Records.{item_with, items_in, placed_with, IsThere}
use Rattle.tm_changes.proofs.Attributing.{attrs_same, few_after, stamps_by}
use Rattle.tm_changes.proofs.Denying.{denied, spent, stamps_are}
use Rattle.tm_volume.proofs.Finding.{OnShelf}
use Rattle.tm_changes.proofs.ItemRecords.{row_item, row_rules}
use Rattle.tm_volume.proofs.Rows.{number_low}
use Rattle.tm_changes.proofs.Destinations.{row_stands}
use Rattle.tm_base.specs.Limits.{max_items, max_extras}

same_placed : {a b : Placed} → Some a ≡ Some b → a ≡ b
same_placed h = cc

some_there : (o : Option Placed) (x : Placed) → o ≡ Some x → IsSome o
some_there None x h = cc
some_there (Some y) x h = refl

module _ (m : Seen) (n0 : Numbers) (on : OnShelf m n0) (p : Names) (n : ℕ) (found : (bytes : ℕ → List ℕ) → FoundAt (items_on m bytes) (tree_on m bytes) p n) where
  pub is_there : IsThere m.image.records n
  is_there bytes = some_there (items_in m.image.records bytes n) (found bytes).placed (found bytes).is

  pub in_range : (1 ≤ n) × (n ≤ max_items)
  in_range = number_low m.image.records n (λ bytes. ap is_some (found bytes).is)

  module _ (row : ItemRow) (told : (bytes : ℕ → List ℕ) → option_map placed_row (items_in m.image.records bytes n) ≡ Some row) where
    pub own_row : IsRowAt m.image.records n row
    own_row = row_stands m.image.records on.rising n is_there row told

    pub own_rules : IsItemRow row
    own_rules = (row_rules m.image.records n row own_row).rules

    abbrev text : (ℕ → List ℕ) → List ℕ
    text bytes = (entry_of bytes own_row.rec).bytes

    abbrev own : (ℕ → List ℕ) → Item
    own bytes = item_with row.body (text bytes)

    same : (bytes : ℕ → List ℕ) → (found bytes).placed ≡ placed_with (text bytes) row
    same bytes = same_placed (sym (found bytes).is ∙ row_item m.image.records n row own_row bytes on.rising in_range.0 in_range.1)

    stands : (bytes : ℕ → List ℕ) → item_at (tree_on m bytes) p ≡ Some (own bytes)
    stands bytes = (found bytes).stands ∙ ap (λ (x : Placed). Some x.item) (same bytes)

    comes : (bytes : ℕ → List ℕ) → walk (tree_on m bytes) p ≡ Ok (own bytes)
    comes bytes = (found bytes).walk_is ∙ ap (λ (x : Placed). Ok x.item) (same bytes)

    module _ (c : Change) (sets : SetsAttrs c p) where
      pub set_denied : (bytes : ℕ → List ℕ) (moment : Option ℕ) (why : Refused) → first_refused (attrs_tests c (is_root p) (item_attrs row.body)) ≡ Some why
          → first_refused (tests (volume_on m bytes).contents c moment) ≡ Some why
      set_denied bytes moment why is = denied (volume_on m bytes).contents c p moment sets (own bytes) (comes bytes) (stands bytes) why
          (ap (λ (a : Attrs). first_refused (attrs_tests c (is_root p) a)) (attrs_same row.body (text bytes)) ∙ is)

      pub set_few : first_refused (attrs_tests c (is_root p) (item_attrs row.body)) ≡ None → extras_after c (item_attrs row.body) ≤ max_extras
      set_few passes = few_after c (is_root p) (item_attrs row.body) own_rules.attrs.few passes

      module _ (touched : List Touch) (touched_is : (bytes : ℕ → List ℕ) → touched ≡ touches (tree_on m bytes) c) where
        pub set_draws : (bytes : ℕ → List ℕ) → numbers (tree_on m bytes) c ≡ body_stamps row.body + length touched
        set_draws bytes =
            let s : stamps (tree_on m bytes) c ≡ body_stamps row.body = stamps_are (tree_on m bytes) c p (own bytes) sets (stands bytes) ∙ stamps_by row.body (text bytes) in
            let t = ap length (touched_is bytes) in
            λ i. s i + sym t i

        pub set_spent : (bytes : ℕ → List ℕ) (moment : Option ℕ) → first_refused (attrs_tests c (is_root p) (item_attrs row.body)) ≡ None → 2 ^ 62 < m.tag.next + (body_stamps row.body + length touched)
            → first_refused (tests (volume_on m bytes).contents c moment) ≡ Some IdsSpent
        set_spent bytes moment passes lt = spent (volume_on m bytes).contents c p moment sets (own bytes) (comes bytes) (stands bytes)
            (ap (λ (a : Attrs). first_refused (attrs_tests c (is_root p) a)) (attrs_same row.body (text bytes)) ∙ passes) (omega (arith, lt, set_draws bytes))
