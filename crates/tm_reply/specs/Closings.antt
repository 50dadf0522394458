-- The last line of a reply.
use Rattle.std.specs.Prelude.{ℕ, List, [], ◌∷◌, Option, Some, None, codes}
use Rattle.std.specs.Fmt.{decimal}
use Rattle.tm_base.specs.Days.{moment_text}
use Rattle.tm_base.specs.Refusals.{number_of}
use Rattle.tm_base.specs.declared.refused.Refused.{Refused}
use Rattle.tm_base.specs.declared.refused.Refused.TheVariants as refused
use Rattle.tm_reply.specs.Layout.{spaced, line_of}

-- a refusal's name, and the values that it shows
abbrev pub refusal_words : Refused → List (List ℕ)
refusal_words refused.NoVolume = codes "NoVolume" ∷ []
refusal_words refused.NoStore = codes "NoStore" ∷ []
refusal_words refused.Already = codes "Already" ∷ []
refusal_words refused.Small = codes "Small" ∷ []
refusal_words refused.NotFound = codes "NotFound" ∷ []
refusal_words refused.Exists = codes "Exists" ∷ []
refusal_words refused.NotFolder = codes "NotFolder" ∷ []
refusal_words refused.IsFolder = codes "IsFolder" ∷ []
refusal_words refused.NotEmpty = codes "NotEmpty" ∷ []
refusal_words refused.IntoSelf = codes "IntoSelf" ∷ []
refusal_words refused.TooDeep = codes "TooDeep" ∷ []
refusal_words (refused.TooLong bytes) = codes "TooLong" ∷ decimal bytes ∷ []
refusal_words (refused.TooMany count) = codes "TooMany" ∷ decimal count ∷ []
refusal_words refused.RootItem = codes "RootItem" ∷ []
refusal_words (refused.Full need free) = codes "Full" ∷ decimal need ∷ decimal free ∷ []
refusal_words (refused.Busy date) = codes "Busy" ∷ moment_text date ∷ []
refusal_words refused.NoBackup = codes "NoBackup" ∷ []
refusal_words (refused.DateNotLater date) = codes "DateNotLater" ∷ moment_text date ∷ []
refusal_words refused.NoMoment = codes "NoMoment" ∷ []
refusal_words (refused.ClockBack date) = codes "ClockBack" ∷ moment_text date ∷ []
refusal_words refused.NoSnapshot = codes "NoSnapshot" ∷ []
refusal_words refused.NotExcluded = codes "NotExcluded" ∷ []
refusal_words refused.NoAttribute = codes "NoAttribute" ∷ []
refusal_words refused.IdsSpent = codes "IdsSpent" ∷ []
refusal_words refused.IdTaken = codes "IdTaken" ∷ []
refusal_words refused.NotBuilt = codes "NotBuilt" ∷ []

-- these words with a blank between them
unfoldable pub refusal_text : Refused → List ℕ
refusal_text r = spaced (refusal_words r)

-- the words of the closing line: `ok`, or `refused NUMBER TEXT`
abbrev pub closing_words : Option Refused → List (List ℕ)
closing_words None = codes "ok" ∷ []
closing_words (Some r) = codes "refused" ∷ decimal (number_of r) ∷ refusal_text r ∷ []

-- the text of the closing line, with its end
unfoldable pub closing_text : Option Refused → List ℕ
closing_text refused = line_of (closing_words refused)
