-- Lines that stay in memory, and lines that read.
use Rattle.std.proofs.Common.{◌≡◌, ℕ, Option, Some, None, Result, Ok, Err, List, [], sym, ap, subst}
use Rattle.tm_base.specs.declared.refused.LineFault.{LineFault}
use Rattle.tm_base.specs.declared.refused.LineFault.TheVariants.{Refused as RefusedFor, Fault, Memory}
use Rattle.tm_base.specs.declared.refused.Refused.{Refused}
use Rattle.tm_base.specs.declared.refused.Refused.TheVariants.{NoVolume}
use Rattle.tm_base.specs.declared.refused.Side.{Side as RefusedSide}
use Rattle.tm_base.specs.Paths.{Names}
use Rattle.tm_reply.specs.declared.row.ReplyRow.{ReplyRow}
use Rattle.std.specs.Option.{option_map_or}
use Rattle.tm_tree.specs.Changes.{item_tests}
use Rattle.tm_tree.specs.Refusing.{Tests, first_refused}
use Rattle.tm_volume.specs.Seen.{Seen as VolumeSeen, stored_on, tree_on}
use Rattle.tm_volume.specs.Stored.{StoredVolume}
use Rattle.tm_world.specs.Log.{Log, now, Steps}
use Rattle.tm_world.specs.Outside.{Outside, disk}
use Rattle.tm_world.specs.declared.world.Side.{Side}
use Rattle.tm_world.specs.declared.world.Side.TheVariants.{Volume as VolumeSide}
use Rattle.tm_world.proofs.Going.{Passes-none}
use Rattle.tm_text.specs.declared.line.Line.{Line}
use Rattle.tm_text.specs.declared.line.Line.TheVariants.{StartBackupBlock}
use Rattle.tm_machine.specs.Allowed.{Did, MayBackUp, MayDoChangeless}
use Rattle.tm_machine.specs.Answers.{AnswersBy, AnswersQuery, AnswersReading}
use Rattle.tm_machine.specs.Queries.{list_rows}
use Rattle.tm_machine.specs.Session.{Seen, state_on, Standing, IsOpen, Alike, IfReplied, effect, changeless_effect, Replies, Does}
use Rattle.tm_machine.specs.States.{State, Stored, kept}
use Rattle.tm_machine.specs.Steps.{clock_tests, on_volume, unless_refused}
use Rattle.tm_machine.specs.Stops.{LeavesPair}
use Rattle.tm_machine.proofs.Resting.{stored_in, state_alike, standing_alike, open_alike, replied_any, reading_moments}

-- ---- a line that stays in memory

replies_query : (tested : Tests) (data_lines : List ReplyRow) (s new : State) (made : List Stored) (result : Result (List ReplyRow) LineFault)
    → AnswersQuery tested data_lines result → new ≡ s → Replies (effect tested data_lines s made s) new result
replies_query tested data_lines s new made (Ok found) h same = (h.0, h.1, same)
replies_query tested data_lines s new made (Err (RefusedFor why)) h same = (h, same)
replies_query tested data_lines s new made (Err (Fault side)) h same = tt
replies_query tested data_lines s new made (Err Memory) h same = tt

pub query_does : (tested : Tests) (data_lines : List ReplyRow) (m new : Seen) (made : List Stored) (log : Log) (result : Result (List ReplyRow) LineFault)
    → AnswersQuery tested data_lines result → Alike m new → Standing m (now log) → Does (effect tested data_lines (state_on m (now log)) made (state_on m (now log))) m new log log result
query_does tested data_lines m new made log result h alike standing = record {
  replies = replies_query tested data_lines (state_on m (now log)) (state_on new (now log)) made result h (state_alike m new (now log) alike);
  standing = replied_any result (Standing new (now log)) (standing_alike m new (now log) alike standing);
  moments = Passes-none log _;
}

pub query_open : (m new : Seen) (blocks : Side → ℕ) (result : Result (List ReplyRow) LineFault) → Alike m new → IsOpen m blocks → IfReplied result (IsOpen new blocks)
query_open m new blocks result alike h = replied_any result (IsOpen new blocks) (open_alike m new blocks alike h)

pub query_standing : (m new : Seen) (o : Outside) (result : Result (List ReplyRow) LineFault) → Alike m new → Standing m o → IfReplied result (Standing new o)
query_standing m new o result alike h = replied_any result (Standing new o) (standing_alike m new o alike h)

pub query_fault : {P : Type 0} (tested : Tests) (data_lines : List ReplyRow) (result : Result (List ReplyRow) LineFault) (side : RefusedSide)
    → AnswersQuery tested data_lines result → result ≡ Err (Fault side) → P
query_fault tested data_lines result side h e = absurd (subst (λ (r : Result (List ReplyRow) LineFault). AnswersQuery tested data_lines r) e h)

-- the moment is set

abbrev pub moved : Seen → ℕ → Seen
moved m date = record m { moment = Some date }

clock_replies : (m new : Seen) (date : ℕ) (o : Outside) (result : Result (List ReplyRow) LineFault)
    → AnswersBy (clock_tests m.moment date) [] (moved m date) m new result
    → Replies (effect (clock_tests m.moment date) [] (state_on (moved m date) o) [] (state_on m o)) (state_on new o) result
clock_replies m new date o (Ok found) h = (h.0, h.1, ap (λ (x : Seen). state_on x o) h.2)
clock_replies m new date o (Err (RefusedFor why)) h = (h.0, ap (λ (x : Seen). state_on x o) h.1)
clock_replies m new date o (Err (Fault side)) h = tt
clock_replies m new date o (Err Memory) h = tt

moved_standing : (m : Seen) (date : ℕ) (o : Outside) → Standing m o → Standing (moved m date) o
moved_standing m date o h = record { apart = h.apart; volume_side = h.volume_side; store_side = h.store_side }

moved_open : (m : Seen) (date : ℕ) (blocks : Side → ℕ) → IsOpen m blocks → IsOpen (moved m date) blocks
moved_open m date blocks h = record {
  count = h.count;
  small = h.small;
  sound = h.sound;
  ready = h.ready;
  store_count = h.store_count;
  store_small = h.store_small;
  idle = h.idle;
}

-- what holds of a session and of it with another moment
clock_replied : (P : Seen → Type 0) (m new : Seen) (date : ℕ) (result : Result (List ReplyRow) LineFault)
    → AnswersBy (clock_tests m.moment date) [] (moved m date) m new result → P m → P (moved m date) → IfReplied result (P new)
clock_replied P m new date (Ok found) h same set = subst P (sym h.2) set
clock_replied P m new date (Err (RefusedFor why)) h same set = subst P (sym h.1) same
clock_replied P m new date (Err (Fault side)) h same set = tt
clock_replied P m new date (Err Memory) h same set = tt

pub clock_standing : (m new : Seen) (date : ℕ) (o : Outside) (result : Result (List ReplyRow) LineFault)
    → AnswersBy (clock_tests m.moment date) [] (moved m date) m new result → Standing m o → IfReplied result (Standing new o)
clock_standing m new date o result h standing = clock_replied (λ x. Standing x o) m new date result h standing (moved_standing m date o standing)

pub clock_open : (m new : Seen) (date : ℕ) (blocks : Side → ℕ) (result : Result (List ReplyRow) LineFault)
    → AnswersBy (clock_tests m.moment date) [] (moved m date) m new result → IsOpen m blocks → IfReplied result (IsOpen new blocks)
clock_open m new date blocks result h is_open = clock_replied (λ x. IsOpen x blocks) m new date result h is_open (moved_open m date blocks is_open)

pub clock_does : (m new : Seen) (date : ℕ) (log : Log) (result : Result (List ReplyRow) LineFault)
    → AnswersBy (clock_tests m.moment date) [] (moved m date) m new result → Standing m (now log)
    → let s = state_on m (now log) in Does (effect (clock_tests s.moment date) [] (record s { moment = Some date }) [] s) m new log log result
clock_does m new date log result h standing = record {
  replies = clock_replies m new date (now log) result h;
  standing = clock_standing m new date (now log) result h standing;
  moments = Passes-none log _;
}

pub clock_fault : {P : Type 0} (m new : Seen) (date : ℕ) (result : Result (List ReplyRow) LineFault) (side : RefusedSide)
    → AnswersBy (clock_tests m.moment date) [] (moved m date) m new result → result ≡ Err (Fault side) → P
clock_fault m new date result side h e = absurd (subst (λ (r : Result (List ReplyRow) LineFault). AnswersBy (clock_tests m.moment date) [] (moved m date) m new r) e h)

-- ---- a line that reads

replies_reading : (tested : Tests) (data_lines : List ReplyRow) (s new : State) (made : List Stored) (result : Result (List ReplyRow) LineFault)
    → AnswersReading tested data_lines result → new ≡ s → Replies (effect tested data_lines s made s) new result
replies_reading tested data_lines s new made (Ok found) h same = (h.0, h.1, same)
replies_reading tested data_lines s new made (Err (RefusedFor why)) h same = (h, same)
replies_reading tested data_lines s new made (Err (Fault side)) h same = tt
replies_reading tested data_lines s new made (Err Memory) h same = tt

pub reading_standing : (m : Seen) (start end : Log) (result : Result (List ReplyRow) LineFault) → Steps start end (now start) → Standing m (now start) → IfReplied result (Standing m (now end))
reading_standing m start end result steps standing = replied_any result (Standing m (now end)) (subst (Standing m) (sym steps.ends) standing)

pub reading_does : (tested : Tests) (data_lines : List ReplyRow) (m : Seen) (made : List Stored) (start end : Log) (result : Result (List ReplyRow) LineFault)
    → LeavesPair (kept (state_on m (now start))) (now start) → AnswersReading tested data_lines result → Steps start end (now start) → Standing m (now start)
    → Does (effect tested data_lines (state_on m (now start)) made (state_on m (now start))) m m start end result
reading_does tested data_lines m made start end result leaves h steps standing = record {
  replies = replies_reading tested data_lines (state_on m (now start)) (state_on m (now end)) made result h (ap (state_on m) steps.ends);
  standing = reading_standing m start end result steps standing;
  moments = reading_moments (kept (state_on m (now start))) (unless_refused (first_refused tested) [] made) start end standing.apart leaves steps;
}

-- ---- the lines on the volume that read

pub list_answer : (m : Seen) (v : VolumeSeen) (o : Outside) (p : Names) (result : Result (List ReplyRow) LineFault) → m.volume ≡ Some v
    → AnswersQuery (item_tests (tree_on v (disk VolumeSide o).bytes) p) (list_rows (tree_on v (disk VolumeSide o).bytes) p) result
    → AnswersQuery (on_volume (state_on m o).volume (λ s. item_tests s.volume.contents.tree p)) (option_map_or (λ s. list_rows s.volume.contents.tree p) (state_on m o).volume []) result
list_answer m v o p result is h =
    subst (λ (x : Option VolumeSeen). AnswersQuery (on_volume (stored_in (disk VolumeSide o).bytes x) (λ s. item_tests s.volume.contents.tree p))
    (option_map_or (λ s. list_rows s.volume.contents.tree p) (stored_in (disk VolumeSide o).bytes x) []) result) (sym is) h

-- where no volume is formatted
pub no_volume_reading : (test : StoredVolume → Tests) (rows : Option StoredVolume → List ReplyRow) (m : Seen) (o : Outside) (why : Refused) (r : Result (List ReplyRow) LineFault) → why ≡ NoVolume → m.volume ≡ None
    → r ≡ Err (RefusedFor why) → AnswersReading (on_volume (state_on m o).volume test) (rows (state_on m o).volume) r
no_volume_reading test rows m o why r is none exit =
    subst (AnswersReading (on_volume (state_on m o).volume test) (rows (state_on m o).volume)) (sym exit)
    (subst (λ (x : Option VolumeSeen). AnswersReading (on_volume (stored_in (disk VolumeSide o).bytes x) test) (rows (stored_in (disk VolumeSide o).bytes x)) (Err (RefusedFor why))) (sym none)
    (ap (λ (x : Refused). Some x) (sym is)))

pub volume_reading : (test : StoredVolume → Tests) (rows : Option StoredVolume → List ReplyRow) (m : Seen) (v : VolumeSeen) (o : Outside) (r : Result (List ReplyRow) LineFault) → m.volume ≡ Some v
    → AnswersReading (test (stored_on v (disk VolumeSide o).bytes)) (rows (Some (stored_on v (disk VolumeSide o).bytes))) r → AnswersReading (on_volume (state_on m o).volume test) (rows (state_on m o).volume) r
volume_reading test rows m v o r is h =
    subst (λ (x : Option VolumeSeen). AnswersReading (on_volume (stored_in (disk VolumeSide o).bytes x) test) (rows (stored_in (disk VolumeSide o).bytes x)) r) (sym is) h

pub ls_fault : {P : Type 0} (m : Seen) (o : Outside) (p : Names) (result : Result (List ReplyRow) LineFault) (side : RefusedSide)
    → AnswersQuery (on_volume (state_on m o).volume (λ s. item_tests s.volume.contents.tree p)) (option_map_or (λ s. list_rows s.volume.contents.tree p) (state_on m o).volume []) result
    → result ≡ Err (Fault side) → P
ls_fault m o p result side h e =
    query_fault (on_volume (state_on m o).volume (λ s. item_tests s.volume.contents.tree p)) (option_map_or (λ s. list_rows s.volume.contents.tree p) (state_on m o).volume []) result side h e

-- ---- a line that does not change the volume's contents, by its kind

abbrev pub DoesChangeless : Line → Seen → Seen → Log → Log → Result (List ReplyRow) LineFault → Type 0
DoesChangeless l m new start end result = Does (changeless_effect (state_on m (now start)) l) m new start end result

pub as_line : (l of : Line) (m new : Seen) (start end : Log) (result : Result (List ReplyRow) LineFault) → l ≡ of → DoesChangeless of m new start end result → DoesChangeless l m new start end result
as_line l of m new start end result is does = subst (λ (x : Line). DoesChangeless x m new start end result) (sym is) does

-- a line that does what the plain machine does
pub as_plain : (l of : Line) (m new : Seen) (start end : Log) (result : Result (List ReplyRow) LineFault) → MayDoChangeless (state_on m (now start)) of (changeless_effect (state_on m (now start)) of)
    → l ≡ of → DoesChangeless of m new start end result → Did (MayDoChangeless (state_on m (now start)) l) m new start end result
as_plain l of m new start end result may is does =
    subst (λ (x : Line). Did (MayDoChangeless (state_on m (now start)) x) m new start end result) (sym is) (record { effect = changeless_effect (state_on m (now start)) of; may = may; does = does })

pub as_backup : (l : Line) (m new : Seen) (start end : Log) (result : Result (List ReplyRow) LineFault) → l ≡ StartBackupBlock
    → Did (MayBackUp (state_on m (now start))) m new start end result → Did (MayDoChangeless (state_on m (now start)) l) m new start end result
as_backup l m new start end result is did =
    subst (λ (x : Line). Did (MayDoChangeless (state_on m (now start)) x) m new start end result) (sym is) (record { effect = did.effect; may = did.may; does = did.does })
