-- The numbers of the refusals.
use Rattle.std.specs.Prelude.{ℕ}
use Rattle.tm_base.specs.declared.refused.Refused.{Refused}
use Rattle.tm_base.specs.declared.refused.Refused.TheVariants.{NoVolume, NoStore, Already, Small, NotFound, Exists, NotFolder, IsFolder, NotEmpty, IntoSelf, TooDeep, TooLong, TooMany, RootItem, Full, Busy, NoBackup, DateNotLater, NoMoment, ClockBack, NoSnapshot, NotExcluded, NoAttribute, IdsSpent, IdTaken, NotBuilt}

-- the number that a reply prints
abbrev pub number_of : Refused → ℕ
number_of NoVolume = 1
number_of NoStore = 2
number_of Already = 3
number_of Small = 4
number_of NotFound = 5
number_of Exists = 6
number_of NotFolder = 7
number_of IsFolder = 8
number_of NotEmpty = 9
number_of IntoSelf = 10
number_of TooDeep = 11
number_of (TooLong length) = 12
number_of (TooMany count) = 13
number_of RootItem = 14
number_of (Full need free) = 15
number_of (Busy date) = 16
number_of NoBackup = 17
number_of (DateNotLater date) = 18
number_of NoMoment = 19
number_of (ClockBack date) = 20
number_of NoSnapshot = 21
number_of NotExcluded = 22
number_of NoAttribute = 24
number_of IdsSpent = 25
number_of IdTaken = 26
number_of NotBuilt = 27
