use Rattle.tm_pages.proofs.Paging.{CountIsReckoned-holds, PlacesAreReckoned-holds, TextIsShort-holds}
use Rattle.tm_pages.proofs.laws.paged_texts_are_short.Goals as goal

pub returns-clause-count : goal.returns-clause-count
returns-clause-count c = CountIsReckoned-holds

pub returns-clause-short : goal.returns-clause-short
returns-clause-short c = TextIsShort-holds

pub returns-clause-places : goal.returns-clause-places
returns-clause-places c = PlacesAreReckoned-holds
