-- The days of the calendar, counted from 1 January 1970, and the text of a moment.
use Rattle.std.specs.Prelude.{◌≡◌, ℕ, zero, suc, ◌+◌, ◌/◌, ◌%◌, ◌≤◌, nat_lt, if◌then◌else◌, List, pos}
use Rattle.jiff_core.specs.Calendar.{days_in_month}
use Rattle.tm_base.specs.Moments.{date_text}

pub record Day : Type 0 where
  pub year : ℕ
  pub month : ℕ
  pub day : ℕ

abbrev pub next_day : Day → Day
next_day d =
    if nat_lt d.day (days_in_month (pos d.year) d.month) then record { year = d.year; month = d.month; day = d.day + 1 }
    else if nat_lt d.month 12 then record { year = d.year; month = d.month + 1; day = 1 }
    else record { year = d.year + 1; month = 1; day = 1 }

-- the day so many days after 1 January 1970
unfoldable pub day_after : ℕ → Day
day_after zero = record { year = 1970; month = 1; day = 1 }
day_after (suc n) = next_day (day_after n)

-- `YYYY-MM-DD-HHMMSS` for the moment n seconds after 1970-01-01T00:00:00 in UTC
unfoldable pub moment_text : ℕ → List ℕ
moment_text n = let d = day_after (n / 86_400) in let s = n % 86_400 in
    date_text d.year d.month d.day (s / 3600) (s / 60 % 60) (s % 60)

-- the last second of the year 9999
abbrev pub last_moment : ℕ
last_moment = 253_402_300_799

abbrev pub MomentTextsDiffer : Type 0
MomentTextsDiffer = (m n : ℕ) → m ≤ last_moment → n ≤ last_moment → moment_text m ≡ moment_text n → m ≡ n
