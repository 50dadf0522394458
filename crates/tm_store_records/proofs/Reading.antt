-- Reading one record after another.
use Rattle.std.proofs.Common.{◌≡◌, ◌≢◌, ⊎_elim, suc, ℕ, ◌+◌, ◌-◌, ◌<◌, ◌≤◌, ◌^◌, Bool, true, false, not, cond, Option, Some, None, is_some, List, [], ◌∷◌, ◌++◌, find, refl, sym, ap, ◌∙◌, subst, arith, append_assoc, append-nil}
use Rattle.std.specs.Prelude.{nat_lt}
use Rattle.std.specs.List.{All, AllByRecursion, filter_map, cons_option}
use Rattle.std.specs.Option.{option_map, option_to_list, option_and_then}
use Rattle.std.specs.Map.{keys_of}
use Rattle.std.specs.Ordering.{nat_cmp}
use Rattle.std.specs.List.Sorted.{IsStrictlySortedBy}
use Rattle.std.proofs.lemmas.Bool.{cases_lt, cases_eq}
use Rattle.tm_graph.proofs.Same.{at-mapped, keys-mapped}
use Rattle.tm_nodes.specs.Records.{machine_of}
use Rattle.tm_records.specs.declared.record.Record.{Record}
use Rattle.tm_records.specs.Records.{Records, at}
use Rattle.tm_store_records.specs.Heads.{RecordHead, RecordHeads, heads_of, head_at}
use Rattle.tm_store_records.specs.Found.{machine_in}
use Rattle.tm_store_records.specs.Rules.{is_record}
use Rattle.tm_store_records.specs.Drafts.{IsUnread, AreReadBelow, noted}
use Rattle.tm_store_records.proofs.NextKeyLemmas.{Sorted, rest_of, next_of, onward, none_between, none_first, next_above, lt_false, at_other}

abbrev pub head_of : Record → RecordHead
head_of r = record { meta = r.meta; size = r.length }

pub head-at : (records : Records) (key : ℕ) → head_at key (heads_of records) ≡ option_map head_of (at key records)
head-at records key = at-mapped (λ k r. head_of r) records key

pub keys_are : (records : Records) → keys_of (heads_of records) ≡ keys_of records
keys_are records = keys-mapped (λ k r. head_of r) records

-- the head of a record whose meta and length are known
pub head_is : (records : Records) (key size : ℕ) (meta : List ℕ) → option_map (λ r. r.meta) (at key records) ≡ Some meta → Some size ≡ option_map (λ r. r.length) (at key records)
    → head_at key (heads_of records) ≡ Some (record { meta = meta; size = size })
head_is records key size meta m s = head-at records key ∙ by_record (at key records) m s
  where
    by_record : (o : Option Record) → option_map (λ r. r.meta) o ≡ Some meta → Some size ≡ option_map (λ r. r.length) o → option_map head_of o ≡ Some (record { meta = meta; size = size })
    by_record None m s = absurd (cc m)
    by_record (Some r) m s =
        let metas : r.meta ≡ meta = cc in
        let sizes : r.length ≡ size = cc in
        λ i. Some (record { meta = metas i; size = sizes i })

pub head_there : (records : Records) (key : ℕ) → is_some (at key records) ≡ true → (head : RecordHead) × (head_at key (heads_of records) ≡ Some head)
head_there records key there = by_record (at key records) refl there
  where
    by_record : (o : Option Record) → at key records ≡ o → is_some o ≡ true → (head : RecordHead) × (head_at key (heads_of records) ≡ Some head)
    by_record None e t = absurd (cc t)
    by_record (Some r) e t = (head_of r, head-at records key ∙ ap (λ o. option_map head_of o) e)

-- the machine is that of the record at 1
pub machine_here : (heads : RecordHeads) (key : ℕ) (head : RecordHead) → key ≡ 1 → head_at key heads ≡ Some head → machine_in heads ≡ machine_of head.meta
machine_here heads key head one is = ap (λ o. option_and_then (λ h. machine_of h.meta) o) (subst (λ k. head_at k heads ≡ Some head) one is)

-- ---- the next key

pub find_none : (p : ℕ → Bool) (ks : List ℕ) → AllByRecursion (λ k. p k ≡ false) ks → find p ks ≡ None
find_none p [] none = refl
find_none p (k ∷ ks) none = ap (λ b. cond b (Some k) (find p ks)) none.0 ∙ find_none p ks none.1

none_above : (key : ℕ) (ks : List ℕ) → (2 ^ 64 ≤ key + 1) → All (λ k. k < 2 ^ 64) ks → AllByRecursion (λ k. nat_lt key k ≡ false) ks
none_above key [] last small = tt
none_above key (k ∷ ks) last small = (lt_false key k (omega (arith, small 0 0 (omega arith), last)), none_above key ks last (λ i d lt. small (suc i) d (omega arith)))

pub no_next : (key : ℕ) (ks : List ℕ) → (2 ^ 64 ≤ key + 1) → All (λ k. k < 2 ^ 64) ks → None ≡ find (λ k. nat_lt key k) ks
no_next key ks last small = sym (find_none (λ k. nat_lt key k) ks (none_above key ks last small))

-- ---- what has been read

abbrev pub IsPassed : Option ℕ → ℕ → Type 0
IsPassed next k = (n : ℕ) → next ≡ Some n → k < n

-- the first that is none of a store's, among those before the next key
abbrev pub IsUnreadBefore : RecordHeads → Option ℕ → Option ℕ → Type 0
IsUnreadBefore heads next None = (k : ℕ) (head : RecordHead) → IsPassed next k → head_at k heads ≡ Some head → is_record k head ≡ true
IsUnreadBefore heads next (Some key) = (head : RecordHead) × (head_at key heads ≡ Some head) × (is_record key head ≡ false) × AreReadBelow heads key

pub unread_at_end : (heads : RecordHeads) (unread : Option ℕ) → IsUnreadBefore heads None unread → IsUnread heads unread
unread_at_end heads None is = λ k head at. is k head (λ n e. cc) at
unread_at_end heads (Some key) is = is

pub unread_first : (heads : RecordHeads) (next : Option ℕ) → Sorted heads → next ≡ find (λ k. not (nat_lt k 0)) (keys_of heads) → IsUnreadBefore heads next None
unread_first heads next sorted is k head passed at =
    let none : head_at k heads ≡ None = none_first k heads sorted (λ n e. passed n (is ∙ e)) in
    let both : None ≡ Some head = sym none ∙ at in cc

module _ (heads : RecordHeads) (sorted : Sorted heads) (key : ℕ) (head : RecordHead) (is : head_at key heads ≡ Some head) where
  -- one more that is read, or the first that isn't
  pub unread_next : (unread : Option ℕ) → IsUnreadBefore heads (Some key) unread → IsUnreadBefore heads (next_of key heads) (noted unread key (is_record key head))
  unread_next (Some first) before = before
  unread_next None before = by_test (is_record key head) refl
    where
      some_key : (n : ℕ) (q : ℕ) → q < key → Some key ≡ Some n → q < n
      some_key n q lt e = let same : key ≡ n = cc in omega (arith, lt, same)

      by_test : (b : Bool) → is_record key head ≡ b → IsUnreadBefore heads (next_of key heads) (cond b None (Some key))
      by_test true good = λ k other passed at. ⊎_elim
          (λ (lt : k < key). before k other (λ n e. some_key n k lt e) at)
          (λ (le : key ≤ k). ⊎_elim
          (λ (lt : key < k). let none : head_at k heads ≡ None = none_between key k heads sorted lt passed in absurd (let both : None ≡ Some other = sym none ∙ at in cc))
          (λ (ge : k ≤ key). let same : k ≡ key = omega arith in
          let heads_same : Some head ≡ Some other = sym is ∙ ap (λ q. head_at q heads) (sym same) ∙ at in
          let head_same : head ≡ other = cc in
          (λ i. is_record (same i) (sym head_same i)) ∙ good)
          (cases_lt key k))
          (cases_lt k key)
      by_test false bad = (head, is, bad, λ k other lt at. before k other (λ n e. some_key n k lt e) at)

  -- what the record stands for is put before what is left
  pub put_before : {X : Type 0} (f : ℕ × RecordHead → Option X) (so_far : List X) (all : List X) → so_far ++ filter_map f (rest_of (Some key) heads) ≡ all
      → (so_far ++ option_to_list (f (key, head))) ++ filter_map f (rest_of (next_of key heads) heads) ≡ all
  put_before {X = X} f so_far all before = by_value (f (key, head)) ∙ ap (λ xs. so_far ++ filter_map f xs) (sym (onward key head heads sorted is)) ∙ before
    where
      by_value : (o : Option X) → (so_far ++ option_to_list o) ++ filter_map f (rest_of (next_of key heads) heads) ≡ so_far ++ cons_option o (filter_map f (rest_of (next_of key heads) heads))
      by_value None = ap (λ xs. xs ++ filter_map f (rest_of (next_of key heads) heads)) (append-nil so_far)
      by_value (Some x) = append_assoc so_far (x ∷ []) (filter_map f (rest_of (next_of key heads) heads))

-- a measure: how far the next key is from the end
abbrev pub to_go : Option ℕ → ℕ
to_go None = 0
to_go (Some k) = 2 ^ 64 - k

pub goes : (key : ℕ) (heads : RecordHeads) → key < 2 ^ 64 → to_go (next_of key heads) < to_go (Some key)
goes key heads small = by_next (next_of key heads) (λ k e. next_above key k heads e)
  where
    by_next : (o : Option ℕ) → ((k : ℕ) → o ≡ Some k → key < k) → to_go o < to_go (Some key)
    by_next None above = omega arith
    by_next (Some k) above = let lt = above k refl in omega (arith, lt)

pub machine_some : (records : Records) (meta : List ℕ) → option_map (λ r. r.meta) (at 1 records) ≡ Some meta → machine_in (heads_of records) ≡ machine_of meta
machine_some records meta is = ap (λ o. option_and_then (λ h. machine_of h.meta) o) (head-at records 1) ∙ by_record (at 1 records) is
  where
    by_record : (o : Option Record) → option_map (λ r. r.meta) o ≡ Some meta → option_and_then (λ h. machine_of h.meta) (option_map head_of o) ≡ machine_of meta
    by_record None m = absurd (cc m)
    by_record (Some r) m = let metas : r.meta ≡ meta = cc in ap machine_of metas

pub machine_none : (records : Records) → at 1 records ≡ None → machine_in (heads_of records) ≡ None
machine_none records is = ap (λ o. option_and_then (λ h. machine_of h.meta) o) (head-at records 1 ∙ ap (λ o. option_map head_of o) is)

pub heads_sorted : (records : Records) → IsStrictlySortedBy nat_cmp (keys_of records) → Sorted (heads_of records)
heads_sorted records sorted = subst (λ (ks : List ℕ). IsStrictlySortedBy nat_cmp ks) (sym (keys_are records)) sorted

pub key_small : (k : ℕ) (records : Records) → All (λ k. k < 2 ^ 64) (keys_of records) → is_some (at k records) ≡ true → k < 2 ^ 64
key_small k [] small there = cc
key_small k (e ∷ es) small there = ⊎_elim
    (λ (same : k ≡ e.0). omega (arith, same, small 0 0 (omega arith)))
    (λ (other : k ≢ e.0). key_small k es (λ i d lt. small (suc i) d (omega arith)) (subst (λ b. is_some (cond b (Some e.1) (at k es)) ≡ true) (at_other k e.0 other) there))
    (cases_eq k e.0)
