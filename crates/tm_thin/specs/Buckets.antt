-- The hour, day or week of which one snapshot stays. Moments are seconds from 1 January 1970, in UTC.
use Rattle.std.specs.Prelude.{ℕ, ◌-◌, ◌/◌, Bool, false, ◌==◌, nat_le, if◌then◌else◌, pos}
use Rattle.jiff_core.specs.Calendar.{weekday_number}
use Rattle.tm_thin.specs.declared.thinning.Bucket.{Bucket}
use Rattle.tm_thin.specs.declared.thinning.Bucket.TheVariants.{Hour, Day, Week}

-- the day that begins the week of a day: its Monday, or day 0 for the days before the first Monday
abbrev pub monday_of : ℕ → ℕ
monday_of day = day - weekday_number (pos day)

-- of a snapshot of the past 24 hours its hour, of one of the past 30 days its day, and of an older one its week
abbrev pub bucket_of : ℕ → ℕ → Bucket
bucket_of date moment =
    if nat_le (moment - date) 86_400 then Hour (date / 3_600)
    else if nat_le (moment - date) 2_592_000 then Day (date / 86_400)
    else Week (monday_of (date / 86_400))

-- whether two buckets are the same
abbrev pub same_bucket : Bucket → Bucket → Bool
same_bucket (Hour a) (Hour b) = a == b
same_bucket (Day a) (Day b) = a == b
same_bucket (Week a) (Week b) = a == b
same_bucket a b = false
