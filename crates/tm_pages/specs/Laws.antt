-- What everyone who reckons with pages may rely on.
use Rattle.std.specs.Prelude.{◌≡◌, ◌≤◌, ◌*◌, ◌+◌, ◌<◌, ◌^◌, ℕ, List, length, sum}
use Rattle.tm_blockmap.specs.Counts.{times}
use Rattle.tm_chain.specs.Chain.{chain_len}
use Rattle.tm_pages.specs.declared.page.Page.{Page}
use Rattle.tm_pages.specs.declared.cut.Cut.{Cut}
use Rattle.tm_pages.specs.declared.cut.Run.{Run}
use Rattle.tm_pages.specs.Paged.{IsPaged, lengths, blocks_of, text_on, pages_for, reckoned}
use Rattle.tm_pages.specs.Runs.{AreRuns, AreCuts, planned, edited}
use Rattle.tm_pages.specs.Plans.{AreBetween, AreWritten}
use Rattle.tm_pages.specs.Directory.{IsDirectory, BreaksAt, directory_text}

-- a paged text has no more pages than its length allows
abbrev pub CountIsReckoned : Type 0
CountIsReckoned = (lens : List ℕ) → IsPaged lens → length lens ≤ pages_for (sum lens)

-- and a text no more bytes than its pages do
abbrev pub TextIsShort : Type 0
TextIsShort = (lens : List ℕ) → IsPaged lens → sum lens ≤ 4096 * length lens

-- the pages in use, and the chain of their directory, are no more blocks than are reckoned
abbrev pub PlacesAreReckoned : Type 0
PlacesAreReckoned = (pages : List Page) → IsPaged (lengths pages) → length pages + chain_len (6 * length pages) ≤ reckoned (sum (lengths pages))

-- a longer text is reckoned at no fewer blocks
abbrev pub ReckonedRises : Type 0
ReckonedRises = (a b : ℕ) → a ≤ b → (pages_for a ≤ pages_for b) × (reckoned a ≤ reckoned b)

-- pages hold the same text while their blocks read the same
abbrev pub TextStays : Type 0
TextStays = (pages : List Page) (before after : ℕ → List ℕ) → ((b : ℕ) → 0 < times b (blocks_of pages) → after b ≡ before b) → text_on pages after ≡ text_on pages before

-- once the new pages of a plan are written, and no old page was, the planned pages hold the text that the old ones held, with
-- the new texts of the runs
abbrev pub PlanHoldsText : Type 0
PlanHoldsText = (old : List Page) (runs : List Run) (cuts : List Cut) (blocks : List ℕ) (before after : ℕ → List ℕ)
    → AreRuns (lengths old) 0 runs → AreCuts (lengths old) runs cuts → AreBetween old before runs → AreWritten after runs cuts blocks
    → ((b : ℕ) → 0 < times b (blocks_of old) → after b ≡ before b) → text_on (planned old 0 cuts blocks) after ≡ edited old before 0 runs

-- a directory text is that of one list of pages at most
abbrev pub OneDirectory : Type 0
OneDirectory = (marks : List ℕ) (a b : List Page) → length marks ≤ 2 ^ 32 → IsDirectory marks a → IsDirectory marks b → directory_text a ≡ directory_text b → a ≡ b

-- the text of pages that keep the rules breaks none
abbrev pub DirectoryOrBreak : Type 0
DirectoryOrBreak = (marks : List ℕ) (pages : List Page) (offset : ℕ) → length marks ≤ 2 ^ 32 → IsDirectory marks pages → BreaksAt marks (directory_text pages) offset → ⊥

-- at most one place is the first that breaks a rule
abbrev pub OneBreak : Type 0
OneBreak = (marks directory : List ℕ) (offset offset2 : ℕ) → length marks ≤ 2 ^ 32 → BreaksAt marks directory offset → BreaksAt marks directory offset2 → offset ≡ offset2
