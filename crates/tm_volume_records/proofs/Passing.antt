-- Which keys keep their rules, as they are passed by rising key.
use Rattle.std.proofs.Common.{◌≡◌, ◌≢◌, ⊎_elim, inl, inr, ℕ, ◌+◌, ◌-◌, ◌^◌, ◌<◌, ◌≤◌, List, Option, Some, None, Result, Err, refl, sym, ◌∙◌, ap, subst, arith}
use Rattle.std.specs.Option.{option_map, IfSome, IsSome}
use Rattle.std.proofs.lemmas.Bool.{cases_lt}
use Rattle.tm_image.specs.Reads.{Entry, Entries, entry_of, entries_of}
use Rattle.tm_image.specs.declared.error.LoadError.{LoadError}
use Rattle.tm_image.specs.declared.error.LoadError.TheVariants.{Unformatted, Bad, Fault, Memory}
use Rattle.tm_items.specs.Rules.{FollowsRules, IsSound}
use Rattle.tm_nodes.specs.Records.{item_of}
use Rattle.tm_records.specs.declared.record.Record.{Record}
use Rattle.tm_records.specs.Records.{Records, at}
use Rattle.tm_world.specs.declared.cause.Cause.TheVariants as cause
use Rattle.tm_volume_records.specs.Loads.{IfBadAt, IfBadKey, ArePassed, IsOwn, KeepsOwn, IsFirstBad, items_from}
use Rattle.tm_volume_records.specs.Records.{item_key, entry_at}
use Rattle.tm_volume_records.specs.Rules.{Tag, HasData, HasHead, HasJournal, HasItem, IsItem, IsGoodKey, IsGoodVolume, IsLeastBad}
use Rattle.tm_volume_records.proofs.Entering.{data_length}
use Rattle.tm_volume_records.proofs.Slots.{entry_is}
use Rattle.tm_base.specs.Limits.{max_items}

-- ---- answers

pub key_bad : (A : Type 0) (error : LoadError) (key : ℕ) (P : ℕ → Type 0) → error ≡ Bad cause.Record key → P key → IfBadKey {A = A} (Err error) P
key_bad A error key P is p = subst (λ (e : LoadError). IfBadKey {A = A} (Err e) P) (sym is) (refl, p)

-- a call hands on the failure of another, which answers `Bad` for one key alone
pub key_bad_at : (A : Type 0) {B : Type 0} (result : Result B LoadError) (error : LoadError) (key : ℕ) (P : ℕ → Type 0) (Q : Type 0) → result ≡ Err error → (Q → P key) → IfBadAt {A = A} (Err error) key Q
    → IfBadKey result P
key_bad_at A {B} result error key P Q is f h = subst (λ (r : Result B LoadError). IfBadKey r P) (sym is) (handed error h)
  where
    handed : (e : LoadError) → IfBadAt {A = A} (Err e) key Q → IfBadKey {A = B} (Err e) P
    handed Unformatted h = h
    handed (Bad why place) h = (h.0, subst P (sym h.1) (f h.2))
    handed Fault h = tt
    handed Memory h = tt

-- ---- an item by itself

own_item : (bytes : ℕ → List ℕ) (next : ℕ) (o : Option Record) → IfSome o (IsOwn next) → IfSome (option_map (entry_of bytes) o) (IsItem next)
own_item bytes next None h = tt
own_item bytes next (Some r) h = record {
  row = h.row;
  meta = ap (item_of r.meta) (data_length bytes r) ∙ h.meta;
  bytes = subst (λ n. HasData h.row.body n) (sym (data_length bytes r)) h.bytes;
  stamp = h.stamp;
}

item_own : (bytes : ℕ → List ℕ) (next : ℕ) (o : Option Record) → IfSome (option_map (entry_of bytes) o) (IsItem next) → IfSome o (IsOwn next)
item_own bytes next None h = tt
item_own bytes next (Some r) h = record {
  row = h.row;
  meta = ap (item_of r.meta) (sym (data_length bytes r)) ∙ h.meta;
  bytes = subst (λ n. HasData h.row.body n) (data_length bytes r) h.bytes;
  stamp = h.stamp;
}

-- a key apart from all those of a volume
abbrev IsApart : ℕ → Type 0
IsApart key = (key ≢ 1) × (key ≢ 2) × ((n : ℕ) → 1 ≤ n → n ≤ max_items → key ≢ 2 ^ 62 + n)

low_apart : (key : ℕ) → (key ≢ 1) → (key ≢ 2) → key ≤ 2 ^ 62 → IsApart key
low_apart key one two low = (one, two, λ n least most same. omega (arith, same, least, low))

high_apart : (key : ℕ) → 2 ^ 62 + (max_items + 1) ≤ key → IsApart key
high_apart key high = ((λ same. omega (arith, same, high)), (λ same. omega (arith, same, high)), λ n least most same. omega (arith, same, most, high))

module _ (bytes : ℕ → List ℕ) (records : Records) (tag : Tag) where
  abbrev E : Entries
  E = entries_of bytes records

  gone : (key : ℕ) → at key records ≡ None → entry_at key (entries_of bytes records) ≡ None
  gone key none = entry_is bytes key records ∙ ap (λ o. option_map (entry_of bytes) o) none

  there : (key : ℕ) → IsSome (at key records) → IsSome (entry_at key (entries_of bytes records))
  there key some = subst (λ o. IsSome o) (sym (entry_is bytes key records)) (of_option (at key records) some)
    where
      of_option : (o : Option Record) → IsSome o → IsSome (option_map (entry_of bytes) o)
      of_option None h = cc
      of_option (Some r) h = refl

  keeps_none : (key : ℕ) → at key records ≡ None → IsApart key → IsGoodKey (entries_of bytes records) tag key
  keeps_none key none apart = record {
    known = λ some. let bad : IsSome {T = Entry} None = subst (λ o. IsSome o) (gone key none) some in cc;
    head = λ is. absurd (apart.0 is);
    journal = λ is. absurd (apart.1 is);
    item = λ n least most is. absurd (apart.2 n least most is);
  }

  breaks_some : (key : ℕ) → IsSome (at key records) → IsApart key → ¬ IsGoodKey (entries_of bytes records) tag key
  breaks_some key some apart keeps = ⊎_elim
      (λ (is : key ≡ 1). apart.0 is)
      (λ rest. ⊎_elim
      (λ (is : key ≡ 2). apart.1 is)
      (λ (item : (n : ℕ) × (1 ≤ n) × (n ≤ max_items) × (key ≡ item_key n)). apart.2 item.0 item.1 item.2 item.3)
      rest)
      (keeps.known (there key some))

  keeps_head : HasHead (entries_of bytes records) → IsGoodKey (entries_of bytes records) tag 1
  keeps_head has = record {
    known = λ some. inl refl;
    head = λ is. has;
    journal = λ is. absurd (omega (arith, is));
    item = λ n least most is. absurd (omega (arith, is));
  }

  keeps_journal : HasJournal (entries_of bytes records) tag → IsGoodKey (entries_of bytes records) tag 2
  keeps_journal has = record {
    known = λ some. inr (inl refl);
    head = λ is. absurd (omega (arith, is));
    journal = λ is. has;
    item = λ n least most is. absurd (omega (arith, is));
  }

  keeps_item : (n : ℕ) → 1 ≤ n → n ≤ max_items → HasItem (entries_of bytes records) tag.next n → IsGoodKey (entries_of bytes records) tag (2 ^ 62 + n)
  keeps_item n least most has = record {
    known = λ some. inr (inr (n, least, most, refl));
    head = λ is. absurd (omega (arith, is, least));
    journal = λ is. absurd (omega (arith, is, least));
    item = λ m low high is. let same : n ≡ m = omega (arith, is) in subst (λ k. HasItem (entries_of bytes records) tag.next k) same has;
  }

  has_item : (n : ℕ) → KeepsOwn records tag.next n → FollowsRules (items_from records bytes) n → HasItem (entries_of bytes records) tag.next n
  has_item n own place = record {
    item = subst (λ o. IfSome o (IsItem tag.next)) (sym (entry_is bytes (item_key n) records)) (own_item bytes tag.next (at (item_key n) records) own);
    place = place;
  }

  own_of : (n : ℕ) → HasItem (entries_of bytes records) tag.next n → KeepsOwn records tag.next n
  own_of n has = item_own bytes tag.next (at (item_key n) records) (subst (λ o. IfSome o (IsItem tag.next)) (entry_is bytes (item_key n) records) has.item)

  -- ---- one key more

  pub passed_more : (key : ℕ) → ArePassed (entries_of bytes records) tag key → IsGoodKey (entries_of bytes records) tag key → ArePassed (entries_of bytes records) tag (key + 1)
  passed_more key passed keeps other lt = ⊎_elim
      (λ (before : other < key). passed other before)
      (λ (here : key ≤ other). let same : key ≡ other = omega (arith, lt, here) in subst (λ k. IsGoodKey (entries_of bytes records) tag k) same keeps)
      (cases_lt other key)

  -- nothing stands at the keys between
  passed_to : (a b : ℕ) → ArePassed (entries_of bytes records) tag a → ((key : ℕ) → a ≤ key → key < b → at key records ≡ None) → ((key : ℕ) → a ≤ key → key < b → IsApart key) → ArePassed (entries_of bytes records) tag b
  passed_to a b passed none apart other lt = ⊎_elim
      (λ (before : other < a). passed other before)
      (λ (from : a ≤ other). keeps_none other (none other from lt) (apart other from lt))
      (cases_lt other a)

  least_stray : (a key : ℕ) → ArePassed (entries_of bytes records) tag a → IsSome (at key records) → ((other : ℕ) → a ≤ other → other < key → at other records ≡ None) → ((other : ℕ) → a ≤ other → other ≤ key → IsApart other) → a ≤ key
      → IsLeastBad (entries_of bytes records) tag key
  least_stray a key passed some none apart le = record {
    bad = breaks_some key some (apart key le (omega arith));
    below = passed_to a key passed none (λ other from lt. apart other from (omega (arith, lt)));
  }

  -- ---- each step

  pub passed_0 : ArePassed (entries_of bytes records) tag 0
  passed_0 other lt = absurd (omega (arith, lt))

  pub bad_0 : (key : ℕ) → IsSome (at key records) → key ≤ 0 → IsLeastBad (entries_of bytes records) tag key
  bad_0 key some low = record {
    bad = breaks_some key some (low_apart key (λ is. omega (arith, is, low)) (λ is. omega (arith, is, low)) (omega (arith, low)));
    below = λ other lt. absurd (omega (arith, lt, low));
  }

  pub passed_1 : ((key : ℕ) → 0 ≤ key → key ≤ 0 → at key records ≡ None) → ArePassed (entries_of bytes records) tag 1
  passed_1 none = passed_to 0 1 passed_0 (λ key from lt. none key from (omega (arith, lt))) (λ key from lt. low_apart key (λ is. omega (arith, is, lt)) (λ is. omega (arith, is, lt)) (omega (arith, lt)))

  pub bad_1 : ArePassed (entries_of bytes records) tag 1 → ¬ HasHead (entries_of bytes records) → IsLeastBad (entries_of bytes records) tag 1
  bad_1 passed broken = record { bad = λ keeps. broken (keeps.head refl); below = passed }

  pub passed_2 : ArePassed (entries_of bytes records) tag 1 → HasHead (entries_of bytes records) → ArePassed (entries_of bytes records) tag 2
  passed_2 passed has = passed_more 1 passed (keeps_head has)

  pub bad_2 : ArePassed (entries_of bytes records) tag 2 → ¬ HasJournal (entries_of bytes records) tag → IsLeastBad (entries_of bytes records) tag 2
  bad_2 passed broken = record { bad = λ keeps. broken (keeps.journal refl); below = passed }

  pub passed_3 : ArePassed (entries_of bytes records) tag 2 → HasJournal (entries_of bytes records) tag → ArePassed (entries_of bytes records) tag 3
  passed_3 passed has = passed_more 2 passed (keeps_journal has)

  low_between : (key : ℕ) → 3 ≤ key → key ≤ 2 ^ 62 → IsApart key
  low_between key from low = low_apart key (λ is. omega (arith, is, from)) (λ is. omega (arith, is, from)) low

  pub bad_low : ArePassed (entries_of bytes records) tag 3 → (key : ℕ) → IsSome (at key records) → 3 ≤ key → key ≤ 2 ^ 62 → ((other : ℕ) → 3 ≤ other → other < key → at other records ≡ None) → IsLeastBad (entries_of bytes records) tag key
  bad_low passed key some from low none = least_stray 3 key passed some none (λ other le lt. low_between other le (omega (arith, lt, low))) from

  pub passed_low : ArePassed (entries_of bytes records) tag 3 → ((key : ℕ) → 3 ≤ key → key ≤ 2 ^ 62 → at key records ≡ None) → ArePassed (entries_of bytes records) tag (2 ^ 62 + 1)
  passed_low passed none = passed_to 3 (2 ^ 62 + 1) passed (λ key from lt. none key from (omega (arith, lt))) (λ key from lt. low_between key from (omega (arith, lt)))

  passed_items : (n : ℕ) → ArePassed (entries_of bytes records) tag (2 ^ 62 + 1) → n ≤ max_items + 1 → ((m : ℕ) → 1 ≤ m → m < n → HasItem (entries_of bytes records) tag.next m) → ArePassed (entries_of bytes records) tag (2 ^ 62 + n)
  passed_items n passed few has other lt = ⊎_elim
      (λ (before : other < 2 ^ 62 + 1). passed other before)
      (λ (from : 2 ^ 62 + 1 ≤ other).
      let m : ℕ = other - 2 ^ 62 in
      let is : 2 ^ 62 + (other - 2 ^ 62) ≡ other = omega (arith, from) in
      subst (λ k. IsGoodKey (entries_of bytes records) tag k) is (keeps_item (other - 2 ^ 62) (omega (arith, from)) (omega (arith, from, lt, few)) (has (other - 2 ^ 62) (omega (arith, from)) (omega (arith, from, lt)))))
      (cases_lt other (2 ^ 62 + 1))

  pub bad_item : ArePassed (entries_of bytes records) tag (2 ^ 62 + 1) → (n : ℕ) → IsFirstBad records tag.next n → IsLeastBad (entries_of bytes records) tag (2 ^ 62 + n)
  bad_item passed n first = record {
    bad = λ keeps. let has = keeps.item n first.least first.most refl in first.bad bytes (own_of n has) has.place;
    below = passed_items n passed (omega (arith, first.most)) (λ m least lt. has_item m (first.own m least lt) (first.place bytes m lt));
  }

  pub passed_all : ArePassed (entries_of bytes records) tag (2 ^ 62 + 1) → ((m : ℕ) → 1 ≤ m → m ≤ max_items → KeepsOwn records tag.next m) → IsSound (items_from records bytes) → ArePassed (entries_of bytes records) tag (2 ^ 62 + (max_items + 1))
  passed_all passed own sound = passed_items (max_items + 1) passed (omega arith) (λ m least lt. has_item m (own m least (omega (arith, lt))) (sound m))

  pub bad_high : ArePassed (entries_of bytes records) tag (2 ^ 62 + (max_items + 1)) → (key : ℕ) → IsSome (at key records) → 2 ^ 62 + (max_items + 1) ≤ key → ((other : ℕ) → 2 ^ 62 + (max_items + 1) ≤ other → other < key → at other records ≡ None)
      → IsLeastBad (entries_of bytes records) tag key
  bad_high passed key some from none = least_stray (2 ^ 62 + (max_items + 1)) key passed some none (λ other le lt. high_apart other le) from

  pub all_good : ArePassed (entries_of bytes records) tag (2 ^ 62 + (max_items + 1)) → ((key : ℕ) → 2 ^ 62 + (max_items + 1) ≤ key → at key records ≡ None) → IsGoodVolume (entries_of bytes records) tag
  all_good passed none key = ⊎_elim
      (λ (before : key < 2 ^ 62 + (max_items + 1)). passed key before)
      (λ (from : 2 ^ 62 + (max_items + 1) ≤ key). keeps_none key (none key from) (high_apart key from))
      (cases_lt key (2 ^ 62 + (max_items + 1)))
