-- A text of 17 bytes and the parts that stand in it.
use Rattle.std.proofs.Common.{Bool, true, false, not, Result, Ok, Err, IsOk, MatchResult, rules, negsuc, inl, ◌+ℤ◌, ◌*ℤ◌, ◌≡◌, ℕ, ◌+◌, ◌*◌, ◌/◌, ◌%◌, ◌<◌, List, length, slice_index, ℤ, pos, ◌≤ℤ◌, unsigned_abs, arith, refl, sym, ap, ◌∙◌}
use Rattle.jiff_core.specs.declared.civil.datetime.DateTime.{DateTime}
use Rattle.std.proofs.lemmas.Int.{by_lt_z}
use Rattle.jiff_core.specs.declared.civil.date.Date.{Date}
use Rattle.jiff_core.specs.Calendar.{days_from_civil}
use Rattle.jiff_core.specs.Date.{epoch_day}
use Rattle.jiff_core.specs.Time.{time_seconds}
use Rattle.jiff_core.specs.DateTime.{civil_seconds}
use Rattle.jiff_core.proofs.CalendarLemmas.{days_in_month_bounds}
use Rattle.jiff_core.proofs.DateLemmas.{epoch_day-lt, epoch_day_injective}
use Rattle.jiff_core.proofs.StandardFacts.{known_days}
use Rattle.jiff_core.proofs.SignedLemmas.{signed_arith}
use Rattle.tm_base.specs.Moments.{digit, date_text, text_of, two, HasParts, HasPartsOf, IsWholeSecond, Names}

-- two digits read as the number that they write
two_digits : (a b n : ℕ) → a ≡ digit (n / 10) → b ≡ digit (n % 10) → n < 100 → two a b ≡ n
two_digits a b n high low small = omega arith

four_digits : (a b c d n : ℕ) → a ≡ digit (n / 1000) → b ≡ digit (n / 100 % 10) → c ≡ digit (n / 10 % 10) → d ≡ digit (n % 10) → n < 10000
    → 100 * two a b + two c d ≡ n
four_digits a b c d n a_is b_is c_is d_is small = omega arith

pub abs_pos : (z : ℤ) → pos 0 ≤ℤ z → z ≡ pos (unsigned_abs z)
abs_pos (pos n) low = refl
abs_pos (negsuc n) low = absurd (omega (arith, signed_arith, low))

-- a text of a whole second has its parts
pub parts_of_text : (t : DateTime) (text : List ℕ) → IsWholeSecond t → text ≡ text_of t → HasPartsOf t text
unfolding text_of
parts_of_text t text whole written =
    let place : (k : ℕ) → slice_index text k ≡ slice_index (text_of t) k = λ k. ap (λ (l : List ℕ). slice_index l k) written in
    let year_is : t.date.year ≡ pos (unsigned_abs t.date.year) = abs_pos t.date.year whole.year in
    let year_small : unsigned_abs t.date.year < 10000 = omega (arith, signed_arith, t.date.year_in, year_is) in
    let day_small : t.date.day < 100 = omega (arith, t.date.day_in, days_in_month_bounds t.date.year t.date.month) in
    record {
      year = year_is ∙ ap pos (sym (four_digits _ _ _ _ (unsigned_abs t.date.year) (place 0) (place 1) (place 2) (place 3) year_small));
      month = sym (two_digits _ _ t.date.month (place 5) (place 6) (omega arith));
      day = sym (two_digits _ _ t.date.day (place 8) (place 9) day_small);
      hour = sym (two_digits _ _ t.time.hour (place 11) (place 12) (omega arith));
      minute = sym (two_digits _ _ t.time.minute (place 13) (place 14) (omega arith));
      second = sym (two_digits _ _ t.time.second (place 15) (place 16) (omega arith));
      whole = whole.second;
    }

-- the parts are the date and time
pub text_of-parts : (t : DateTime) (y m d h i s : ℕ) → HasParts t y m d h i s → text_of t ≡ date_text y m d h i s
unfolding text_of
text_of-parts t y m d h i s p = rw (p.year, p.month, p.day, p.hour, p.minute, p.second) refl

pub civil_seconds-parts : (t : DateTime) (y m d h i s : ℕ) → HasParts t y m d h i s
    → civil_seconds t ≡ days_from_civil (pos y) m d *ℤ pos 86_400 +ℤ pos (h * 3600 + i * 60 + s)
unfolding civil_seconds
civil_seconds-parts t y m d h i s p = rw (p.year, p.month, p.day, p.hour, p.minute, p.second) refl

pub same_text : (a b : DateTime) (text : List ℕ) → HasPartsOf a text → HasPartsOf b text → text_of a ≡ text_of b
same_text a b text p q = text_of-parts a _ _ _ _ _ _ p ∙ sym (text_of-parts b _ _ _ _ _ _ q)

pub same_seconds : (a b : DateTime) (text : List ℕ) → HasPartsOf a text → HasPartsOf b text → civil_seconds a ≡ civil_seconds b
same_seconds a b text p q = civil_seconds-parts a _ _ _ _ _ _ p ∙ sym (civil_seconds-parts b _ _ _ _ _ _ q)

pub length-text_of : (t : DateTime) → length (text_of t) ≡ 17
unfolding text_of
length-text_of t = refl

-- a text names one moment at most
pub names_one : (text : List ℕ) (m n : ℕ) → Names text m → Names text n → m ≡ n
names_one text m n p q =
    let same = same_seconds p.at q.at text (parts_of_text p.at text p.whole p.written) (parts_of_text q.at text q.whole q.written) in
    let both : pos m ≡ pos n = sym p.counted ∙ same ∙ q.counted in
    omega (arith, signed_arith, both)

-- a moment has one text at most
pub named_once : (s t : List ℕ) (n : ℕ) → Names s n → Names t n → s ≡ t
unfolding civil_seconds text_of
named_once s t n p q =
    let same : civil_seconds p.at ≡ civil_seconds q.at = p.counted ∙ sym q.counted in
    let days : epoch_day p.at.date ≡ epoch_day q.at.date = omega (arith, signed_arith) in
    let date = epoch_day_injective p.at.date q.at.date days in
    let hour : p.at.time.hour ≡ q.at.time.hour = omega (arith, signed_arith) in
    let minute : p.at.time.minute ≡ q.at.time.minute = omega (arith, signed_arith) in
    let second : p.at.time.second ≡ q.at.time.second = omega (arith, signed_arith) in
    p.written ∙ rw (date.0, date.1, date.2, hour, minute, second) (sym q.written)

first_day : Date
first_day = record { year = pos 1970; month = 1; day = 1; year_in = search rules; month_in = search rules; day_in = search rules }

first_day_is : epoch_day first_day ≡ pos 0
unfolding first_day
first_day_is = (known_days).0

-- what does not lie before 1970 has a year that does not
pub year_from_1970 : (d : Date) → pos 0 ≤ℤ epoch_day d → pos 0 ≤ℤ d.year
unfolding first_day
year_from_1970 d late =
    by_lt_z d.year (pos 1970) (λ before. let early = epoch_day-lt d first_day (inl before) in absurd (omega (arith, signed_arith, first_day_is))) (λ later. omega (arith, signed_arith))

-- the seconds of a day number and of what is left of its day
pub civil_seconds-split : (t : DateTime) (n : ℕ) → epoch_day t.date +ℤ pos 4_371_587 ≡ pos (n / 86_400 + 4_371_587) → time_seconds t.time ≡ n % 86_400
    → civil_seconds t ≡ pos n
unfolding civil_seconds
civil_seconds-split t n days rest = omega (arith, signed_arith)

pub year_from_days : (d : Date) (n : ℕ) → epoch_day d +ℤ pos 4_371_587 ≡ pos (n + 4_371_587) → pos 0 ≤ℤ d.year
year_from_days d n days = year_from_1970 d (omega (arith, signed_arith))

pub ok_if : {T E : Type 0} (r : Result T E) (P : T → Type 0) (U : Type 0) (Q : E → Type 0) → MatchResult r P (λ e. (¬ U) × Q e) → U → IsOk r
ok_if (Ok x) P U Q cases u = refl
ok_if (Err e) P U Q cases u = absurd (cases.0 u)

pub from_not : (b : Bool) → false ≡ not b → b ≡ true
from_not true h = refl
from_not false h = h
