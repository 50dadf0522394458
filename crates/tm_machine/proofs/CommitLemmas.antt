-- The last commit, and that each line has a reply.
use Rattle.std.proofs.Common.{◌≡◌, ℕ, ◌<◌, Bool, true, false, if◌then◌else◌, Option, Some, None, List, [], ◌∷◌, ◌++◌, length, codes, refl, arith}
use Rattle.std.proofs.lemmas.List.{length-append}
use Rattle.tm_base.specs.declared.refused.Refused.{Refused}
use Rattle.std.specs.Fmt.{decimal}
use Rattle.tm_base.specs.Refusals.{number_of}
use Rattle.tm_reply.specs.Closings.{closing_text, refusal_text}
use Rattle.tm_reply.specs.Layout.{line_of}
use Rattle.tm_text.specs.declared.line.Line.{Line}
use Rattle.tm_text.specs.declared.line.Line.TheVariants as line
use Rattle.tm_store_records.specs.States.{StoredStore}
use Rattle.tm_tree.specs.Refusing.{first_refused}
use Rattle.tm_tree.specs.declared.change.Change.{Change}
use Rattle.tm_volume.specs.Stored.{StoredVolume}
use Rattle.tm_machine.specs.Changing.{change_of}
use Rattle.tm_machine.specs.States.{State, Stored, kept, opened}
use Rattle.tm_machine.specs.Steps.{after, after_by, after_refused, after_refused_by, changeless_after, changeless_after_refused, ended, refusal, start_tests, step, unless_refused}
use Rattle.tm_machine.specs.Commits.{last_from, opening, changeless_commits, changeless_undone, ending, undone, undone_by, done_by, commits_of, LastOfOpening}

pub last_from-append : {A : Type 0} (x : A) (xs ys : List A) → last_from x (xs ++ ys) ≡ last_from (last_from x xs) ys
last_from-append x [] ys = refl
last_from-append x (y ∷ xs) ys = last_from-append y xs ys

changeless_last : (s : State) (l : Line) → last_from (kept s) (changeless_commits s l) ≡ kept (changeless_after s l)
changeless_last s (line.NewVolume name id events) = refl
changeless_last s (line.NewStore machine) = refl
changeless_last s line.StartBackupBlock = refl
changeless_last s _ = refl

made_last : (s : State) (l : Line) (c : Option Change) → last_from (kept s) (done_by s l c) ≡ kept (after_by s l c)
made_last s l (Some c) = refl
made_last s l None = changeless_last s l

ending_last : (why : Option Refused) (s : State) → last_from (kept s) (ending why s) ≡ kept (ended why s)
ending_last None s = refl
ending_last (Some why) s = refl

pub changeless_undone_last : (s : State) (l : Line) → last_from (kept s) (changeless_undone s l) ≡ kept (changeless_after_refused s l)
changeless_undone_last s line.StartBackupBlock = ending_last (first_refused (start_tests s)) s
changeless_undone_last s _ = refl

undone_last : (s : State) (l : Line) (c : Option Change) → last_from (kept s) (undone_by s l c) ≡ kept (after_refused_by s l c)
undone_last s l (Some c) = refl
undone_last s l None = changeless_undone_last s l

pub unless_last : (why : Option Refused) (s refused new : State) (undone made : List Stored) → last_from (kept s) undone ≡ kept refused → last_from (kept s) made ≡ kept new
    → last_from (kept s) (unless_refused why undone made) ≡ kept (unless_refused why refused new)
unless_last None s refused new undone made g h = h
unless_last (Some why) s refused new undone made g h = g

-- the last commit of a line of the plain machine is what is kept of the state after it
pub last_of_line : (s : State) (l : Line) → last_from (kept s) (commits_of s l) ≡ kept (step s l)
last_of_line s l =
    unless_last (refusal s l) s (after_refused s l) (after s l) (undone s l) (done_by s l (change_of l)) (undone_last s l (change_of l)) (made_last s l (change_of l))

abbrev with_volume : StoredVolume → Option StoredStore → Stored
with_volume v z = record { volume = Some v; store = z }

clean_last : (b : Bool) (v new : StoredVolume) (z : Option StoredStore)
    → last_from (with_volume v z) (if b then [] else with_volume (if b then v else new) z ∷ []) ≡ with_volume (if b then v else new) z
clean_last true v new z = refl
clean_last false v new z = refl

opened_last : (n k : ℕ) (v : Option StoredVolume) (z : Option StoredStore) → last_from (record { volume = v; store = z }) (opening (record { volume = v; store = z })) ≡ kept (opened n k (record { volume = v; store = z }))
opened_last n k None z = refl
opened_last n k (Some v) z = clean_last v.clean v _ z

pub last_of_opening : LastOfOpening
last_of_opening n k r = opened_last n k r.volume r.store

pub closing_some : (why : Option Refused) → 0 < length (closing_text why)
unfolding closing_text
closing_some None = omega (arith, length-append (codes "ok") (0x0A ∷ []))
closing_some (Some r) = omega (arith, length-append (codes "refused") (0x20 ∷ line_of (decimal (number_of r) ∷ refusal_text r ∷ [])))
