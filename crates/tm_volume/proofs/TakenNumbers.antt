-- Where every number is taken, there are as many items as a volume may have.
use Rattle.std.proofs.Common.{◌≡◌, ◌≢◌, ⊎_elim, ℕ, ◌+◌, ◌-◌, ◌^◌, ◌<◌, ◌≤◌, Bool, true, false, cond, List, [], ◌∷◌, length, refl, sym, ap, ◌∙◌, subst, Option, Some, None, IsSome, arith}
use Rattle.std.specs.BTreeMap.{is_at}
use Rattle.std.specs.List.Sorted.{IsStrictlySortedBy}
use Rattle.std.specs.Map.{lookup}
use Rattle.std.specs.Option.{option_map, option_map_or}
use Rattle.std.specs.Ordering.{nat_cmp}
use Rattle.std.proofs.lemmas.Bool.{cases_eq, cases_lt}
use Rattle.tm_items.specs.Index.{Numbers}
use Rattle.tm_items.proofs.Reading.{number_decides}
use Rattle.tm_nodes.specs.declared.volume.VolumeHead.{VolumeHead}
use Rattle.tm_nodes.specs.Records.{volume_of}
use Rattle.tm_records.specs.declared.record.Record.{Record}
use Rattle.tm_records.specs.Records.{Records, at}
use Rattle.tm_volume_records.specs.Records.{head_key, journal_key, item_key, items_in}
use Rattle.tm_volume_records.proofs.Slots.{Rising, is_less, rising_tail}
use Rattle.tm_volume.specs.Seen.{Seen, IsShelf}
use Rattle.tm_volume.specs.FreeNumbers.{AreTaken, counted_items, journal_count}
use Rattle.tm_volume.proofs.Rows.{has_row}
use Rattle.tm_base.specs.Limits.{max_items}

is_there : {X : Type 0} (o : Option X) (x : X) → o ≡ Some x → IsSome o
is_there None x is = cc
is_there (Some y) x is = refl

module _ {X : Type 0} where
  abbrev Stands : ℕ → List (ℕ × X) → Type 0
  Stands k es = IsSome (lookup (is_at (nat_cmp k)) es)

  -- what stands at another key than the first stands behind it
  behind : (e : ℕ × X) (es : List (ℕ × X)) (k : ℕ) → k ≢ e.0 → Stands k (e ∷ es) → Stands k es
  behind e es k other = by_test (is_at (nat_cmp k) e.0) refl
    where
      by_test : (b : Bool) → is_at (nat_cmp k) e.0 ≡ b → IsSome (cond b (Some e.1) (lookup (is_at (nat_cmp k)) es)) → Stands k es
      by_test true is there = absurd (other ((number_decides k e.0).0 is))
      by_test false is there = there

  -- nothing stands below the first key
  none_below : (e : ℕ × X) (es : List (ℕ × X)) (k : ℕ) → Rising (e ∷ es) → k < e.0 → Stands k (e ∷ es) → ⊥
  unfolding IsStrictlySortedBy
  none_below e [] k rising low there = let bad : false ≡ true = behind e [] k (λ same. omega (arith, same, low)) there in cc
  none_below e (f ∷ es) k rising low there =
      none_below f es k (rising_tail e (f ∷ es) rising) (omega (arith, low, is_less e.0 f.0 rising.0.0)) (behind e (f ∷ es) k (λ same. omega (arith, same, low)) there)

  abbrev AllStand : ℕ → ℕ → List (ℕ × X) → Type 0
  AllStand lo hi es = (k : ℕ) → lo ≤ k → k < hi → Stands k es

  -- so many keys in a row are so many entries
  in_a_row : (es : List (ℕ × X)) (lo hi : ℕ) → Rising es → AllStand lo hi es → hi ≤ lo + length es
  in_a_row [] lo hi rising all = ⊎_elim
      (λ (some : lo < hi). let bad : false ≡ true = all lo (omega arith) some in absurd (let no : ⊥ = cc in no))
      (λ (none : hi ≤ lo). omega (arith, none))
      (cases_lt lo hi)
  in_a_row (e ∷ es) lo hi rising all = ⊎_elim
      (λ (before : e.0 < lo). omega (arith, in_a_row es lo hi (rising_tail e es rising) (λ k least most. behind e es k (λ same. omega (arith, same, least, before)) (all k least most))))
      (λ (from : lo ≤ e.0). ⊎_elim
      (λ (here : e.0 ≡ lo). omega (arith, in_a_row es (lo + 1) hi (rising_tail e es rising) (λ k least most. behind e es k (λ same. omega (arith, same, least, here)) (all k (omega (arith, least)) most))))
      (λ (past : e.0 ≢ lo). ⊎_elim
      (λ (some : lo < hi). absurd (none_below e es lo rising (⊎_elim (λ (lt : lo < e.0). lt) (λ (le : e.0 ≤ lo). absurd (past (omega (arith, le, from)))) (cases_lt lo e.0)) (all lo (omega arith) some)))
      (λ (none : hi ≤ lo). omega (arith, none))
      (cases_lt lo hi))
      (cases_eq e.0 lo))
      (cases_lt e.0 lo)

  -- and one more with a key below them
  with_one : (es : List (ℕ × X)) (c lo hi : ℕ) → c < lo → Rising es → Stands c es → AllStand lo hi es → hi + 1 ≤ lo + length es
  with_one [] c lo hi low rising there all = cc
  with_one (e ∷ es) c lo hi low rising there all = ⊎_elim
      (λ (here : c ≡ e.0). omega (arith, in_a_row es lo hi (rising_tail e es rising) (λ k least most. behind e es k (λ same. omega (arith, same, here, least, low)) (all k least most))))
      (λ (other : c ≢ e.0). ⊎_elim
      (λ (lt : c < e.0). absurd (none_below e es c rising lt there))
      (λ (le : e.0 ≤ c). omega (arith, with_one es c lo hi low (rising_tail e es rising) (behind e es c other there) (λ k least most. behind e es k (λ same. omega (arith, same, le, least, low)) (all k least most))))
      (cases_lt c e.0))
      (cases_eq c e.0)

  -- and two more with two keys below them
  with_two : (es : List (ℕ × X)) (c d lo hi : ℕ) → c < d → d < lo → Rising es → Stands c es → Stands d es → AllStand lo hi es → hi + 2 ≤ lo + length es
  with_two [] c d lo hi first low rising there also all = cc
  with_two (e ∷ es) c d lo hi first low rising there also all = ⊎_elim
      (λ (here : c ≡ e.0). omega (arith, with_one es d lo hi low (rising_tail e es rising) (behind e es d (λ same. omega (arith, same, here, first)) also) (λ k least most. behind e es k (λ same. omega (arith, same, here, first, least, low)) (all k least most))))
      (λ (other : c ≢ e.0). ⊎_elim
      (λ (lt : c < e.0). absurd (none_below e es c rising lt there))
      (λ (le : e.0 ≤ c). omega (
        arith,
        with_two es c d lo hi first low (rising_tail e es rising) (behind e es c other there) (behind e es d (λ same. omega (arith, same, le, first)) also)
            (λ k least most. behind e es k (λ same. omega (arith, same, le, first, least, low)) (all k least most)),
      ))
      (cases_lt c e.0))
      (cases_eq c e.0)

-- ---- a volume

head_there : (o : Option Record) (head : VolumeHead) → option_map (λ r. volume_of r.meta) o ≡ Some (Some head) → IsSome o
head_there None head is = cc
head_there (Some r) head is = refl

module _ (m : Seen) (numbers : Numbers) (shelf : IsShelf m numbers) (rising : Rising m.image.records) (taken : AreTaken m.image.records) where
  abbrev es : Records
  es = m.image.records

  root_there : IsSome (at (item_key 1) es)
  root_there =
      let has = has_row es rising 1 (λ bytes. let root = (shelf.sound bytes 1).root refl in is_there (items_in es bytes 1) root.placed root.is) in
      is_there (at (item_key 1) es) has.rec has.at_key

  items_there : AllStand (item_key 1) (item_key max_items + 1) es
  items_there k least most = ⊎_elim
      (λ (root : item_key 1 ≡ k). subst (λ j. IsSome (at j es)) root root_there)
      (λ (other : item_key 1 ≢ k).
      let n : ℕ = k - 2 ^ 62 in
      let above : item_key 1 < k = ⊎_elim (λ (lt : item_key 1 < k). lt) (λ (le : k ≤ item_key 1). absurd (other (omega (arith, le, least)))) (cases_lt (item_key 1) k) in
      let is : item_key n ≡ k = omega (arith, least) in
      subst (λ j. IsSome (at j es)) is (taken n (omega (arith, above)) (omega (arith, most))))
      (cases_eq (item_key 1) k)

  -- there are 65,536 at least, as they are counted
  pub all_taken : max_items ≤ counted_items es
  all_taken = by_journal (at journal_key es) refl
    where
      by_journal : (o : Option Record) → at journal_key es ≡ o → max_items ≤ counted_items es
      by_journal None is =
          let many = with_one es head_key (item_key 1) (item_key max_items + 1) (omega arith) rising (head_there (at head_key es) m.head shelf.head_is) items_there in
          let journal : journal_count es ≡ 0 = ap (λ (o : Option Record). option_map_or (λ _. 1) (option_map (λ r. r.length) o) 0) is in
          omega (arith, many, journal)
      by_journal (Some r) is =
          let many = with_two es head_key journal_key (item_key 1) (item_key max_items + 1) (omega arith) (omega arith) rising (head_there (at head_key es) m.head shelf.head_is) (is_there (at journal_key es) r is) items_there in
          let journal : journal_count es ≡ 1 = ap (λ (o : Option Record). option_map_or (λ _. 1) (option_map (λ r. r.length) o) 0) is in
          omega (arith, many, journal)
