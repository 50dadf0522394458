-- Buckets of rising dates.
use Rattle.std.proofs.Common.{◌≡◌, ℕ, ◌+◌, ◌-◌, ◌/◌, ◌%◌, ◌≤◌, true, false, nat_le, ◌<◌, if◌then◌else◌, sym, ap, ◌∙◌, ⊎_elim, arith, pos}
use Rattle.std.proofs.lemmas.Bool.{cases_lt}
use Rattle.std.proofs.lemmas.Bool.Decides.{nat_tests}
use Rattle.jiff_core.proofs.CalendarLemmas.{weekday_number-parts}
use Rattle.jiff_core.proofs.SignedLemmas.{signed_arith}
use Rattle.tm_thin.specs.declared.thinning.Bucket.{Bucket}
use Rattle.tm_thin.specs.declared.thinning.Bucket.TheVariants.{Hour, Day, Week}
use Rattle.tm_thin.specs.Buckets.{monday_of, bucket_of, same_bucket}

-- day 0 was a Thursday
pub monday_is : (day : ℕ) → monday_of day ≡ day - (day % 7 + 3) % 7
monday_is day = omega (arith, signed_arith, weekday_number-parts (pos day))

-- a later day has no earlier Monday
pub monday_rises : (a b : ℕ) → a ≤ b → monday_of a ≤ monday_of b
monday_rises a b le = omega (arith, monday_is a, monday_is b)

-- buckets that pass the test are the same, and the other way round
pub same_true : (x y : Bucket) → same_bucket x y ≡ true → x ≡ y
same_true (Hour a) (Hour b) t = ap Hour (grind (arith, nat_tests))
same_true (Day a) (Day b) t = ap Day (grind (arith, nat_tests))
same_true (Week a) (Week b) t = ap Week (grind (arith, nat_tests))
same_true (Hour a) (Day b) t = absurd (cc t)
same_true (Hour a) (Week b) t = absurd (cc t)
same_true (Day a) (Hour b) t = absurd (cc t)
same_true (Day a) (Week b) t = absurd (cc t)
same_true (Week a) (Hour b) t = absurd (cc t)
same_true (Week a) (Day b) t = absurd (cc t)

pub same_itself : (x : Bucket) → same_bucket x x ≡ true
same_itself (Hour a) = grind (arith, nat_tests)
same_itself (Day a) = grind (arith, nat_tests)
same_itself (Week a) = grind (arith, nat_tests)

-- ---- the bucket by the age

pub in_hour : (d m : ℕ) → m - d ≤ 86_400 → bucket_of d m ≡ Hour (d / 3_600)
in_hour d m young =
    let test : nat_le (m - d) 86_400 ≡ true = grind (arith, nat_tests) in
    ap (λ b. if b then Hour (d / 3_600) else if nat_le (m - d) 2_592_000 then Day (d / 86_400) else Week (monday_of (d / 86_400))) test

pub in_day : (d m : ℕ) → 86_400 < m - d → m - d ≤ 2_592_000 → bucket_of d m ≡ Day (d / 86_400)
in_day d m old young =
    let test : nat_le (m - d) 86_400 ≡ false = grind (arith, nat_tests) in
    let again : nat_le (m - d) 2_592_000 ≡ true = grind (arith, nat_tests) in
    ap (λ b. if b then Hour (d / 3_600) else if nat_le (m - d) 2_592_000 then Day (d / 86_400) else Week (monday_of (d / 86_400))) test
    ∙ ap (λ b. if b then Day (d / 86_400) else Week (monday_of (d / 86_400))) again

pub in_week : (d m : ℕ) → 2_592_000 < m - d → bucket_of d m ≡ Week (monday_of (d / 86_400))
in_week d m old =
    let test : nat_le (m - d) 86_400 ≡ false = grind (arith, nat_tests) in
    let again : nat_le (m - d) 2_592_000 ≡ false = grind (arith, nat_tests) in
    ap (λ b. if b then Hour (d / 3_600) else if nat_le (m - d) 2_592_000 then Day (d / 86_400) else Week (monday_of (d / 86_400))) test
    ∙ ap (λ b. if b then Day (d / 86_400) else Week (monday_of (d / 86_400))) again

-- one of the three
by_age : {P : Type 0} (d m : ℕ) → (m - d ≤ 86_400 → P) → (86_400 < m - d → m - d ≤ 2_592_000 → P) → (2_592_000 < m - d → P) → P
by_age d m hour day week =
    ⊎_elim (λ (old : 86_400 < m - d). ⊎_elim (λ (older : 2_592_000 < m - d). week older) (λ (young : m - d ≤ 2_592_000). day old young) (cases_lt 2_592_000 (m - d)))
    (λ (young : m - d ≤ 86_400). hour young) (cases_lt 86_400 (m - d))

-- ---- three dates in order

module _ (a b c m : ℕ) (first : a ≤ b) (second : b ≤ c) (past : c ≤ m) where
  hours : bucket_of c m ≡ Hour (c / 3_600) → bucket_of a m ≡ bucket_of c m → m - c ≤ 86_400 → bucket_of b m ≡ bucket_of c m
  hours last same young = by_age a m
      (λ fresh.
      let number : a / 3_600 ≡ c / 3_600 = hour_is (a / 3_600) (c / 3_600) (sym (in_hour a m fresh) ∙ same ∙ last) in
      let between : b / 3_600 ≡ c / 3_600 = omega arith in
      in_hour b m (omega arith) ∙ ap Hour between ∙ sym last)
      (λ old fresh. absurd (day_hour _ _ (sym (in_day a m old fresh) ∙ same ∙ last)))
      (λ old. absurd (week_hour _ _ (sym (in_week a m old) ∙ same ∙ last)))
    where
      hour_is : (x y : ℕ) → Hour x ≡ Hour y → x ≡ y
      hour_is x y e = cc

      day_hour : (x y : ℕ) → Day x ≡ Hour y → ⊥
      day_hour x y e = cc

      week_hour : (x y : ℕ) → Week x ≡ Hour y → ⊥
      week_hour x y e = cc

  days : bucket_of c m ≡ Day (c / 86_400) → bucket_of a m ≡ bucket_of c m → 86_400 < m - c → bucket_of b m ≡ bucket_of c m
  days last same aged = by_age a m
      (λ fresh. absurd (omega arith))
      (λ old fresh.
      let number : a / 86_400 ≡ c / 86_400 = day_is (a / 86_400) (c / 86_400) (sym (in_day a m old fresh) ∙ same ∙ last) in
      let between : b / 86_400 ≡ c / 86_400 = omega arith in
      in_day b m (omega arith) (omega arith) ∙ ap Day between ∙ sym last)
      (λ old. absurd (week_day _ _ (sym (in_week a m old) ∙ same ∙ last)))
    where
      day_is : (x y : ℕ) → Day x ≡ Day y → x ≡ y
      day_is x y e = cc

      week_day : (x y : ℕ) → Week x ≡ Day y → ⊥
      week_day x y e = cc

  weeks : bucket_of c m ≡ Week (monday_of (c / 86_400)) → bucket_of a m ≡ bucket_of c m → 2_592_000 < m - c → bucket_of b m ≡ bucket_of c m
  weeks last same aged =
      let number = week_is _ _ (sym (in_week a m (omega arith)) ∙ same ∙ last) in
      let low = monday_rises (a / 86_400) (b / 86_400) (omega arith) in
      let high = monday_rises (b / 86_400) (c / 86_400) (omega arith) in
      let between : monday_of (b / 86_400) ≡ monday_of (c / 86_400) = omega (arith, low, high, number) in
      in_week b m (omega arith) ∙ ap Week between ∙ sym last
    where
      week_is : (x y : ℕ) → Week x ≡ Week y → x ≡ y
      week_is x y e = cc

  -- the second has the bucket of the third where the first has
  pub between_same : bucket_of a m ≡ bucket_of c m → bucket_of b m ≡ bucket_of c m
  between_same same = by_age c m
      (λ young. hours (in_hour c m young) same young)
      (λ old young. days (in_day c m old young) same old)
      (λ old. weeks (in_week c m old) same old)
