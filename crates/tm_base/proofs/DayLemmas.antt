-- Counting days gives the dates of the calendar.
use Rattle.std.proofs.Common.{◌≡◌, ℕ, zero, suc, ◌+◌, ◌/◌, ◌%◌, ◌<◌, ◌≤◌, ⊎_elim, true, false, nat_lt, if◌then◌else◌, List, refl, sym, ap, ◌∙◌, subst, arith, ℤ, pos}
use Rattle.std.proofs.lemmas.Bool.{cases_lt}
use Rattle.std.proofs.lemmas.Bool.Decides.{nat_tests}
use Rattle.jiff_core.specs.declared.civil.date.Date.{Date}
use Rattle.jiff_core.specs.declared.civil.time.Time.{Time}
use Rattle.jiff_core.specs.declared.civil.datetime.DateTime.{DateTime}
use Rattle.jiff_core.specs.Calendar.{days_in_month, days_from_civil}
use Rattle.jiff_core.proofs.CalendarLemmas.{days_in_month_bounds, days_from_civil-day_count, day_count-later_year, day_count-next_year, day_count-end, day_count-day_of_year}
use Rattle.jiff_core.proofs.DateLemmas.{days_from_civil-day, days_from_civil-next_month, days_from_civil-next_year}
use Rattle.jiff_core.proofs.StandardFacts.{known_days}
use Rattle.jiff_core.proofs.SignedLemmas.{signed_arith}
use Rattle.tm_base.specs.Moments.{text_of, Names}
use Rattle.tm_base.specs.Days.{Day, next_day, day_after, moment_text, last_moment}
use Rattle.tm_base.proofs.MomentLemmas.{names_one, named_once, civil_seconds-split}

-- a day of the calendar with this number
pub record IsDayOf (d : Day) (n : ℕ) : Type 0 where
  pub month_low : 1 ≤ d.month
  pub month_high : d.month ≤ 12
  pub day_low : 1 ≤ d.day
  pub day_high : d.day ≤ days_in_month (pos d.year) d.month
  pub counted : days_from_civil (pos d.year) d.month d.day ≡ pos n

first_is : IsDayOf (record { year = 1970; month = 1; day = 1 }) 0
first_is = record { month_low = omega arith; month_high = omega arith; day_low = omega arith; day_high = omega (arith, days_in_month_bounds (pos 1970) 1); counted = known_days.0 }

next_is : (d : Day) (n : ℕ) → IsDayOf d n → IsDayOf (next_day d) (suc n)
next_is d n h =
    let long = days_in_month_bounds (pos d.year) d.month in
    ⊎_elim
    (λ (within : d.day < days_in_month (pos d.year) d.month).
    let test : nat_lt d.day (days_in_month (pos d.year) d.month) ≡ true = grind (arith, nat_tests) in
    let is : next_day d ≡ record { year = d.year; month = d.month; day = d.day + 1 } = ap (λ b. if b then record { year = d.year; month = d.month; day = d.day + 1 } else if nat_lt d.month 12 then record { year = d.year; month = d.month + 1; day = 1 } else record { year = d.year + 1; month = 1; day = 1 }) test in
    subst (λ e. IsDayOf e (suc n)) (sym is) (record {
      month_low = h.month_low;
      month_high = h.month_high;
      day_low = omega arith;
      day_high = omega arith;
      counted = omega (arith, signed_arith, days_from_civil-day (pos d.year) d.month d.day (d.day + 1) h.day_low (omega arith), h.counted);
    }))
    (λ (last : days_in_month (pos d.year) d.month ≤ d.day).
    let test : nat_lt d.day (days_in_month (pos d.year) d.month) ≡ false = grind (arith, nat_tests) in
    let end : d.day ≡ days_in_month (pos d.year) d.month = omega (arith, h.day_high) in
    ⊎_elim
    (λ (more : d.month < 12).
    let again : nat_lt d.month 12 ≡ true = grind (arith, nat_tests) in
    let is : next_day d ≡ record { year = d.year; month = d.month + 1; day = 1 } =
    ap (λ b. if b then record { year = d.year; month = d.month; day = d.day + 1 } else if nat_lt d.month 12 then record { year = d.year; month = d.month + 1; day = 1 } else record { year = d.year + 1; month = 1; day = 1 }) test
    ∙ ap (λ b. if b then record { year = d.year; month = d.month + 1; day = 1 } else record { year = d.year + 1; month = 1; day = 1 }) again in
    subst (λ e. IsDayOf e (suc n)) (sym is) (record {
      month_low = omega arith;
      month_high = omega arith;
      day_low = omega arith;
      day_high = omega (arith, days_in_month_bounds (pos d.year) (d.month + 1));
      counted = omega (arith, signed_arith, days_from_civil-next_month (pos d.year) d.month d.day h.month_low end, h.counted);
    }))
    (λ (none : 12 ≤ d.month).
    let again : nat_lt d.month 12 ≡ false = grind (arith, nat_tests) in
    let december : d.month ≡ 12 = omega (arith, h.month_high) in
    let last_day : d.day ≡ 31 = omega (arith, days_in_december (pos d.year), rw december at end) in
    let is : next_day d ≡ record { year = d.year + 1; month = 1; day = 1 } =
    ap (λ b. if b then record { year = d.year; month = d.month; day = d.day + 1 } else if nat_lt d.month 12 then record { year = d.year; month = d.month + 1; day = 1 } else record { year = d.year + 1; month = 1; day = 1 }) test
    ∙ ap (λ b. if b then record { year = d.year; month = d.month + 1; day = 1 } else record { year = d.year + 1; month = 1; day = 1 }) again in
    subst (λ e. IsDayOf e (suc n)) (sym is) (record {
      month_low = omega arith;
      month_high = omega arith;
      day_low = omega arith;
      day_high = omega (arith, days_in_month_bounds (pos (d.year + 1)) 1);
      counted = omega (arith, signed_arith, days_from_civil-next_year (pos d.year) (pos (d.year + 1)) (omega (arith, signed_arith)) (omega (arith, signed_arith)), rw (december, last_day) at h.counted);
    }))
    (cases_lt d.month 12))
    (cases_lt d.day (days_in_month (pos d.year) d.month))
  where
    days_in_december : (y : ℤ) → days_in_month y 12 ≡ 31
    days_in_december y = refl

pub day_after_is : (n : ℕ) → IsDayOf (day_after n) n
unfolding day_after
day_after_is zero = first_is
day_after_is (suc n) = next_is (day_after n) n (day_after_is n)

-- a day up to the last of 9999 has a year of four digits
year_small : (d : Day) (n : ℕ) → IsDayOf d n → n ≤ 2_932_896 → d.year ≤ 9999
year_small d n h small =
    ⊎_elim
    (λ (late : 9999 < d.year).
    let first = day_count-day_of_year (pos d.year) d.month d.day h.day_low in
    let above = day_count-later_year (pos 9999) (pos d.year) (omega (arith, signed_arith)) (omega (arith, signed_arith, late)) in
    let end = day_count-next_year (pos 9999) (pos 10000) (omega (arith, signed_arith)) (omega (arith, signed_arith)) in
    absurd (omega (arith, signed_arith, days_from_civil-day_count (pos d.year) d.month d.day, first, above, end, day_count-end, h.counted)))
    (λ (early : d.year ≤ 9999). early)
    (cases_lt 9999 d.year)

date_of : (d : Day) (n : ℕ) → IsDayOf d n → d.year ≤ 9999 → Date
date_of d n h small = record {
  year = pos d.year;
  month = d.month;
  day = d.day;
  year_in = (omega (arith, signed_arith), omega (arith, signed_arith, small));
  month_in = (h.month_low, h.month_high);
  day_in = (h.day_low, h.day_high);
}

time_of : (s : ℕ) → s < 86_400 → Time
time_of s small = record {
  hour = s / 3600;
  minute = s / 60 % 60;
  second = s % 60;
  subsec_nanosecond = 0;
  hour_in = omega arith;
  minute_in = omega arith;
  second_in = omega arith;
  subsec_in = omega arith;
}

-- the text of a moment up to the year 9999 names it
pub names_text : (n : ℕ) → n ≤ last_moment → Names (moment_text n) n
unfolding moment_text text_of date_of time_of
names_text n small =
    let day = day_after_is (n / 86_400) in
    let year : (day_after (n / 86_400)).year ≤ 9999 = year_small (day_after (n / 86_400)) (n / 86_400) day (omega arith) in
    let rest : n % 86_400 < 86_400 = omega arith in
    let at : DateTime = record { date = date_of (day_after (n / 86_400)) (n / 86_400) day year; time = time_of (n % 86_400) rest } in
    record {
      at = at;
      whole = record { year = omega (arith, signed_arith); second = refl };
      written = refl;
      counted = civil_seconds-split at n (omega (arith, signed_arith, day.counted)) (omega arith);
    }

-- and is the only text that does
pub text_is : (text : List ℕ) (n : ℕ) → n ≤ last_moment → Names text n → text ≡ moment_text n
text_is text n small names = named_once text (moment_text n) n names (names_text n small)

-- a moment has a text of its own
pub moment_text_one : (m n : ℕ) → m ≤ last_moment → n ≤ last_moment → moment_text m ≡ moment_text n → m ≡ n
moment_text_one m n small low is =
    names_one (moment_text m) m n (names_text m small) (subst (λ text. Names text n) (sym is) (names_text n low))
