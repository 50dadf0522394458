-- How many items a volume has, numbers that none has, and paths at which none stands.
use Rattle.std.proofs.Common.{◌≡◌, ℕ, ◌+◌, ◌-◌, ◌≤◌, true, false, List, length, refl, sym, ap, ◌∙◌, subst, Option, Some, None, Ok, Err, is_some, is_none, IsSome, arith}
use Rattle.std.specs.Option.{option_map, option_map_or}
use Rattle.tm_base.specs.Paths.{Names}
use Rattle.tm_base.specs.declared.refused.Refused.{Refused}
use Rattle.tm_records.specs.declared.record.Record.{Record}
use Rattle.tm_records.specs.Records.{at}
use Rattle.tm_image.specs.Seen.{IsSound as ImageIsSound}
use Rattle.tm_items.specs.Changes.{Are}
use Rattle.tm_items.specs.Index.{Numbers}
use Rattle.tm_items.specs.Placings.{Items}
use Rattle.tm_items.proofs.Finding.{walk_finds}
use Rattle.tm_tree.specs.declared.item.Item.{Item}
use Rattle.tm_tree.specs.Trees.{Tree, item_at}
use Rattle.tm_tree.specs.Walks.{walk}
use Rattle.tm_volume_records.specs.Records.{journal_key, item_key}
use Rattle.tm_volume_records.specs.Rules.{IsGoodVolume}
use Rattle.tm_volume.specs.Seen.{Seen, IsShelf, entries_on, items_on, tree_on}
use Rattle.tm_volume.specs.FreeNumbers.{IsUnused}
use Rattle.tm_volume_records.proofs.Slots.{items_at, placed_rec}
use Rattle.tm_volume.proofs.Rooms.{Known, count_is, found_kept}
use Rattle.tm_base.specs.Limits.{max_items}

pub known_on : (m : Seen) (numbers : Numbers) → IsShelf m numbers → ImageIsSound m.image → (bytes : ℕ → List ℕ) → IsGoodVolume (entries_on m bytes) m.tag → Known m bytes
known_on m numbers shelf sound bytes good = record {
  rising = sound.rising;
  kept = found_kept m.image.records sound.each;
  sound = shelf.sound bytes;
  good = good;
  head = shelf.head_is;
}

pub counted : (m : Seen) (bytes : ℕ → List ℕ) → Known m bytes → (journal : ℕ) → journal ≡ option_map_or (λ _. 1) (option_map (λ (r : Record). r.length) (at journal_key m.image.records)) 0
    → length m.image.records - (1 + journal) ≡ length (tree_on m bytes)
counted m bytes known journal is = omega (arith, count_is m bytes known, is)

pub one_journal : (o : Option Record) (l : ℕ) → Some l ≡ option_map (λ (r : Record). r.length) o → ◌≡◌ {A = ℕ} 1 (option_map_or (λ _. 1) (option_map (λ (r : Record). r.length) o) 0)
one_journal None l h = cc
one_journal (Some r) l h = refl

pub no_journal : (o : Option Record) → None ≡ option_map (λ (r : Record). r.length) o → ◌≡◌ {A = ℕ} 0 (option_map_or (λ _. 1) (option_map (λ (r : Record). r.length) o) 0)
no_journal None h = refl
no_journal (Some r) h = cc

pub absent : (o : Option Record) (l : Option ℕ) → l ≡ option_map (λ (r : Record). r.length) o → is_some l ≡ false → o ≡ None
absent None l is none = refl
absent (Some r) l is none = let bad : is_some (Some r.length) ≡ false = subst (λ (x : Option ℕ). is_some x ≡ false) is none in cc

pub no_record : (o : Option Record) → is_none o ≡ true → o ≡ None
no_record None h = refl
no_record (Some r) h = cc

pub record_there : (o : Option Record) → is_none o ≡ false → IsSome o
record_there None h = cc
record_there (Some r) h = refl

pub unused : (m : Seen) (n : ℕ) → ImageIsSound m.image → 2 ≤ n → n ≤ max_items → at (item_key n) m.image.records ≡ None → (bytes : ℕ → List ℕ) → IsUnused (items_on m bytes) n
unused m n sound lo hi none bytes = record {
  low = lo;
  high = hi;
  free = items_at bytes m.image.records n (omega arith) hi sound.rising ∙ ap (placed_rec bytes) none;
}

pub nothing_at : (items : Items) (t : Tree) (p : Names) (why : Refused) → Are items t → walk t p ≡ Err why → is_some (item_at t p) ≡ false
nothing_at items t p why are stops = on_item (item_at t p) refl
  where
    on_item : (o : Option Item) → item_at t p ≡ o → is_some o ≡ false
    on_item None is = refl
    on_item (Some e) is =
        let s = are.reads.only p e is in
        let found = walk_finds items t p s.number are s.walks in
        let bad : Err why ≡ Ok found.placed.item = sym stops ∙ found.walk_is in cc
