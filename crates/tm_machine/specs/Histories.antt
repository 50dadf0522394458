-- A run from its opening to its close: what its lines come to, and how far it came.
use Rattle.std.specs.Prelude.{◌≡◌, ◌⊎◌, ℕ, suc, ◌+◌, ◌<◌, ◌≤◌, Bool, false, ◌||◌, is_some, List, [], ◌∷◌, ◌++◌, length, take}
use Rattle.tm_reply.specs.Replies.{reply_text}
use Rattle.tm_text.specs.declared.line.Line.{Line}
use Rattle.tm_tree.specs.Refusing.{first_refused}
use Rattle.tm_machine.specs.Allowed.{MayDo, after_of, commits_by, reply_of}
use Rattle.tm_machine.specs.Commits.{commits, last_from, opening}
use Rattle.tm_machine.specs.Fitting.{FitsReopened, PairFits}
use Rattle.tm_machine.specs.Runs.{any_refused, said_of, state_after}
use Rattle.tm_machine.specs.Session.{Effect, line_effect}
use Rattle.tm_machine.specs.States.{State, Stored, kept, opened}
use Rattle.tm_machine.specs.Steps.{step}

-- ---- lines that are done in turn

abbrev pub AreDone : State → List Line → List Effect → Type 0
AreDone s [] [] = Unit {0}
AreDone s [] (d ∷ done) = ⊥
AreDone s (l ∷ lines) [] = ⊥
AreDone s (l ∷ lines) (d ∷ done) = MayDo s l d × AreDone (after_of d) lines done

-- what the plain machine does
abbrev pub plain_of : State → List Line → List Effect
plain_of s [] = []
plain_of s (l ∷ lines) = line_effect s l ∷ plain_of (step s l) lines

abbrev pub said_in : List Effect → List ℕ
said_in [] = []
said_in (d ∷ done) = reply_text (reply_of d) ++ said_in done

abbrev pub commits_in : List Effect → List Stored
commits_in [] = []
commits_in (d ∷ done) = commits_by d ++ commits_in done

abbrev pub any_refused_in : List Effect → Bool
any_refused_in [] = false
any_refused_in (d ∷ done) = is_some (first_refused d.tested) || any_refused_in done

abbrev pub state_in : State → List Effect → State
state_in s [] = s
state_in s (d ∷ done) = state_in (after_of d) done

-- ---- a whole run; the close makes no commit yet

pub record History : Type 0 where
  pub first : Stored
  pub opening : List Stored
  pub done : List Effect
  pub closing : List Stored

abbrev pub history_commits : History → List Stored
history_commits h = h.opening ++ (commits_in h.done ++ h.closing)

-- what the images hold after so many commits
abbrev pub held : History → ℕ → Stored
held h made = last_from h.first (take made (history_commits h))

-- a history that these lines may have, on images of so many blocks
pub record IsHistory (volume_blocks store_blocks : ℕ) (lines : List Line) (h : History) : Type 0 where
  pub opens : h.opening ≡ opening h.first
  pub does : AreDone (opened volume_blocks store_blocks h.first) lines h.done
  pub closes : h.closing ≡ []

-- so many commits were made when so many bytes were said: those of opening and of each line of whose reply a byte was said, and
-- none of a line after the first whose reply was not said whole
pub record IsWithin (h : History) (spoken made : ℕ) : Type 0 where
  pub short : spoken ≤ length (said_in h.done)
  pub few : made ≤ length (history_commits h)
  pub acknowledged : (i : ℕ) → length (said_in (take i h.done)) < spoken → length h.opening + length (commits_in (take (suc i) h.done)) ≤ made
  pub not_beyond : (i : ℕ) → spoken < length (said_in (take i h.done)) → made ≤ length h.opening + length (commits_in (take i h.done))

-- the lines that were begun when so many bytes were said are among the first i: those whose reply was said, and the next one
abbrev pub IsBegunBy : ℕ → List Effect → ℕ → Type 0
IsBegunBy i done spoken = (spoken < length (said_in (take i done))) ⊎ (length done ≤ i)

-- ---- the history of the plain machine

abbrev pub plain_history : ℕ → ℕ → List Line → Stored → History
plain_history volume_blocks store_blocks lines r = record { first = r; opening = opening r; done = plain_of (opened volume_blocks store_blocks r) lines; closing = [] }

-- ---- laws

-- the last commit of what a line does is what is kept of the state after it, and it has a reply
abbrev pub EffectsEnd : Type 0
EffectsEnd = (s : State) (l : Line) (d : Effect) → MayDo s l d → last_from (kept s) (commits_by d) ≡ kept (after_of d)

abbrev pub EffectsReply : Type 0
EffectsReply = (d : Effect) → 0 < length (reply_text (reply_of d))

-- lines may always do what the plain machine does
abbrev pub PlainMayBeDone : Type 0
PlainMayBeDone = (s : State) (lines : List Line) → AreDone s lines (plain_of s lines)

abbrev pub PlainIsHistory : Type 0
PlainIsHistory = (volume_blocks store_blocks : ℕ) (lines : List Line) (r : Stored)
    → IsHistory volume_blocks store_blocks lines (plain_history volume_blocks store_blocks lines r)

-- over a pair that fits lines do nothing else: they say, commit and leave what the plain machine does
pub record IsPlain (s : State) (lines : List Line) (done : List Effect) : Type 0 where
  pub is : done ≡ plain_of s lines
  pub says : said_in done ≡ said_of s lines
  pub commits_are : commits_in done ≡ commits s lines
  pub refuses : any_refused_in done ≡ any_refused s lines
  pub leaves : state_in s done ≡ state_after s lines

abbrev pub PlainWhereFits : Type 0
PlainWhereFits = (s : State) (lines : List Line) (done : List Effect) → PairFits s → AreDone s lines done → IsPlain s lines done

-- and so does a run, where the pair fits once it is opened again
abbrev pub HistoryWhereFits : Type 0
HistoryWhereFits = (volume_blocks store_blocks : ℕ) (lines : List Line) (h : History) → FitsReopened h.first → IsHistory volume_blocks store_blocks lines h
    → h ≡ plain_history volume_blocks store_blocks lines h.first

-- whatever the images hold at a moment of it fits once it is opened again
abbrev pub HeldFits : Type 0
HeldFits = (volume_blocks store_blocks : ℕ) (lines : List Line) (r : Stored) (made : ℕ) → FitsReopened r
    → FitsReopened (held (plain_history volume_blocks store_blocks lines r) made)
