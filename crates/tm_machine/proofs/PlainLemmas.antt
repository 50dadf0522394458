-- What a line may do over a pair that fits.
use Rattle.std.proofs.Common.{◌≡◌, ℕ, Bool, ◌||◌, is_some, Option, Some, None, List, [], ◌∷◌, ◌++◌, refl, sym, ◌∙◌, ap, subst, arith}
use Rattle.std.proofs.lemmas.List.{length-append}
use Rattle.tm_reply.specs.Closings.{closing_text}
use Rattle.tm_reply.specs.Replies.{reply_text, rows_text}
use Rattle.tm_text.specs.declared.line.Line.{Line}
use Rattle.tm_text.specs.declared.line.Line.TheVariants as line
use Rattle.tm_tree.specs.declared.change.Change.{Change}
use Rattle.tm_tree.specs.Copies.{LabelledTree}
use Rattle.tm_tree.specs.Refusing.{first_refused}
use Rattle.tm_machine.specs.Allowed.{MayDo, MayDoBy, MayDoChangeless, after_of, backup_effect, commits_by, reply_of}
use Rattle.tm_machine.specs.Changing.{change_of}
use Rattle.tm_machine.specs.Commits.{commits, last_from, opening}
use Rattle.tm_machine.specs.Fitting.{PairFits}
use Rattle.tm_machine.specs.Histories.{AreDone, EffectsEnd, EffectsReply, History, HistoryWhereFits, PlainIsHistory, PlainMayBeDone, PlainWhereFits, any_refused_in, commits_in, plain_of, said_in, state_in}
use Rattle.tm_machine.specs.Runs.{any_refused, said_of, state_after}
use Rattle.tm_machine.specs.Session.{Effect, line_effect}
use Rattle.tm_machine.specs.States.{State, Stored, kept, opened}
use Rattle.tm_machine.specs.Steps.{step}
use Rattle.tm_machine.proofs.Allowing.{changeless_is, plain_may}
use Rattle.tm_machine.proofs.CommitLemmas.{closing_some, last_of_line, changeless_undone_last, unless_last}
use Rattle.tm_machine.proofs.FitLemmas.{FitLaws, step_fits}

-- ---- the last commit

backup_last : (tree : LabelledTree) (s : State) → last_from (kept s) (commits_by (backup_effect tree s)) ≡ kept (after_of (backup_effect tree s))
backup_last tree s =
    let d = backup_effect tree s in
    unless_last (first_refused d.tested) s d.after_refused d.after d.undone d.commits (changeless_undone_last s line.StartBackupBlock) refl

Ends : State → Effect → Type 0
Ends s d = last_from (kept s) (commits_by d) ≡ kept (after_of d)

plain_ends : (s : State) (l : Line) (d : Effect) → d ≡ line_effect s l → Ends s d
unfolding Ends
plain_ends s l d is = subst (λ (x : Effect). last_from (kept s) (commits_by x) ≡ kept (after_of x)) (sym is) (last_of_line s l)

changeless_ends : (s : State) (l : Line) (d : Effect) → change_of l ≡ None → MayDoChangeless s l d → Ends s d
unfolding Ends
changeless_ends s line.StartBackupBlock d e may = subst (λ (x : Effect). last_from (kept s) (commits_by x) ≡ kept (after_of x)) (sym may.is) (backup_last may.tree s)
changeless_ends s l d e may = plain_ends s l d (may ∙ changeless_is s l e)

ends_by : (s : State) (l : Line) (d : Effect) (o : Option Change) → change_of l ≡ o → MayDoBy s l o d → Ends s d
ends_by s l d (Some c) e may = plain_ends s l d may
ends_by s l d None e may = changeless_ends s l d e may

pub effects_end : EffectsEnd
unfolding Ends
effects_end s l d may = ends_by s l d (change_of l) refl may

pub effects_reply : EffectsReply
unfolding reply_text
effects_reply d = omega (arith, closing_some (reply_of d).refused, length-append (rows_text (reply_of d).rows) (closing_text (reply_of d).refused))

pub plain_done : PlainMayBeDone
plain_done s [] = tt
plain_done s (l ∷ lines) = (plain_may s l, plain_done (step s l) lines)

pub plain_is_history : PlainIsHistory
plain_is_history n k lines r = record { opens = refl; does = plain_done (opened n k r) lines; closes = refl }

pub plain_commits : (s : State) (lines : List Line) → commits_in (plain_of s lines) ≡ commits s lines
plain_commits s [] = refl
plain_commits s (l ∷ lines) = ap (λ (xs : List Stored). commits_by (line_effect s l) ++ xs) (plain_commits (step s l) lines)

-- ---- over a pair that fits

exact_changeless : (s : State) (l : Line) (d : Effect) → change_of l ≡ None → PairFits s → MayDoChangeless s l d → d ≡ line_effect s l
exact_changeless s line.StartBackupBlock d e fits may = may.exact fits ∙ changeless_is s line.StartBackupBlock e
exact_changeless s l d e fits may = may ∙ changeless_is s l e

exact_by : (s : State) (l : Line) (d : Effect) (o : Option Change) → change_of l ≡ o → PairFits s → MayDoBy s l o d → d ≡ line_effect s l
exact_by s l d (Some c) e fits may = may
exact_by s l d None e fits may = exact_changeless s l d e fits may

exact : (s : State) (l : Line) (d : Effect) → PairFits s → MayDo s l d → d ≡ line_effect s l
exact s l d fits may = exact_by s l d (change_of l) refl fits may

module _ (laws : FitLaws) where
  is_plain : (s : State) (lines : List Line) (done : List Effect) → PairFits s → AreDone s lines done → done ≡ plain_of s lines
  is_plain s [] [] fits may = refl
  is_plain s [] (d ∷ done) fits may = absurd may
  is_plain s (l ∷ lines) [] fits may = absurd may
  is_plain s (l ∷ lines) (d ∷ done) fits may =
      let same : d ≡ line_effect s l = exact s l d fits may.0 in
      let rest : AreDone (step s l) lines done = subst (λ (x : Effect). AreDone (after_of x) lines done) same may.1 in
      (λ i. same i ∷ is_plain (step s l) lines done (step_fits laws s l fits) rest i)

  says : (s : State) (lines : List Line) → said_in (plain_of s lines) ≡ said_of s lines
  says s [] = refl
  says s (l ∷ lines) = ap (λ (xs : List ℕ). reply_text (reply_of (line_effect s l)) ++ xs) (says (step s l) lines)

  refuses : (s : State) (lines : List Line) → any_refused_in (plain_of s lines) ≡ any_refused s lines
  refuses s [] = refl
  refuses s (l ∷ lines) = ap (λ (b : Bool). is_some (first_refused (line_effect s l).tested) || b) (refuses (step s l) lines)

  leaves : (s : State) (lines : List Line) → state_in s (plain_of s lines) ≡ state_after s lines
  leaves s [] = refl
  leaves s (l ∷ lines) = leaves (step s l) lines

  pub plain_where_fits : PlainWhereFits
  plain_where_fits s lines done fits may =
      let is = is_plain s lines done fits may in
      record { is = is; says = ap said_in is ∙ says s lines; commits_are = ap commits_in is ∙ plain_commits s lines; refuses = ap any_refused_in is ∙ refuses s lines; leaves = ap (state_in s) is ∙ leaves s lines }

  history_by : (h : History) (opening closing : List Stored) (done : List Effect) → h.opening ≡ opening → h.done ≡ done → h.closing ≡ closing → h ≡ record { first = h.first; opening = opening; done = done; closing = closing }
  history_by h opening closing done a b c = λ i. record { first = h.first; opening = a i; done = b i; closing = c i }

  pub history_where_fits : HistoryWhereFits
  history_where_fits n k lines h fits is =
      history_by h (opening h.first) [] (plain_of (opened n k h.first) lines) is.opens (is_plain (opened n k h.first) lines h.done (fits n k) is.does) is.closes
