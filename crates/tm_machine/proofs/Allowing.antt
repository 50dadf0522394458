-- What a line may do, line by line.
use Rattle.std.proofs.Common.{◌≡◌, ℕ, Option, Some, None, Result, Err, List, [], ◌∷◌, refl, sym, subst}
use Rattle.std.proofs.lemmas.Option.{none-some}
use Rattle.tm_base.specs.declared.refused.LineFault.{LineFault}
use Rattle.tm_base.specs.declared.refused.LineFault.TheVariants.{Refused as RefusedFor, Memory}
use Rattle.tm_base.specs.declared.refused.Refused.TheVariants.{NotBuilt}
use Rattle.tm_reply.specs.declared.row.ReplyRow.{ReplyRow}
use Rattle.tm_text.specs.declared.line.Line.{Line}
use Rattle.tm_text.specs.declared.line.Line.TheVariants as line
use Rattle.tm_tree.specs.declared.change.Change.{Change}
use Rattle.tm_store_records.specs.States.{StoredStore}
use Rattle.tm_volume.specs.Stored.{StoredVolume}
use Rattle.tm_world.specs.Log.{Log, now}
use Rattle.tm_world.proofs.Going.{Passes-none}
use Rattle.tm_machine.specs.Allowed.{Did, MayBackUp, MayDo, MayDoBy, MayDoChangeless}
use Rattle.tm_machine.specs.Backups.{copy_of}
use Rattle.tm_machine.specs.Changing.{change_of}
use Rattle.tm_machine.specs.Commits.{done_by, undone_by}
use Rattle.tm_machine.specs.Session.{Does, Effect, Seen, Standing, effect, line_effect, changeless_effect, state_on}
use Rattle.tm_machine.specs.States.{State, kept}
use Rattle.tm_machine.specs.Steps.{after_by, change_tests, changed, after_refused_by, rows, tests_by}
use Rattle.tm_machine.proofs.Resting.{state}

-- ---- what the plain machine does a line may do

plain_backup : (n k : ℕ) (v : Option StoredVolume) (z : Option StoredStore) (moment : Option ℕ) → MayBackUp (state n k v z moment) (changeless_effect (state n k v z moment) line.StartBackupBlock)
plain_backup n k None z moment = record { tree = []; is = refl; exact = λ fits. refl }
plain_backup n k (Some v) None moment = record { tree = []; is = refl; exact = λ fits. refl }
plain_backup n k (Some v) (Some z) None = record { tree = copy_of z.store v.volume; is = refl; exact = λ fits. refl }
plain_backup n k (Some v) (Some z) (Some date) = record { tree = copy_of z.store v.volume; is = refl; exact = λ fits. refl }

plain_changeless : (s : State) (l : Line) → MayDoChangeless s l (changeless_effect s l)
plain_changeless s line.StartBackupBlock = plain_backup s.volume_blocks s.store_blocks s.volume s.store s.moment
plain_changeless s _ = refl

pub changeless_is : (s : State) (l : Line) → change_of l ≡ None → changeless_effect s l ≡ line_effect s l
changeless_is s l e = (λ i. record { tested = tests_by s l (sym e i); rows = rows s l; after = after_by s l (sym e i); commits = done_by s l (sym e i); after_refused = after_refused_by s l (sym e i); undone = undone_by s l (sym e i) })

plain_by : (s : State) (l : Line) (o : Option Change) → change_of l ≡ o → MayDoBy s l o (line_effect s l)
plain_by s l (Some c) e = refl
plain_by s l None e = subst (MayDoChangeless s l) (changeless_is s l e) (plain_changeless s l)

pub plain_may : (s : State) (l : Line) → MayDo s l (line_effect s l)
plain_may s l = plain_by s l (change_of l) refl

-- ---- a change, and a line that is none

rows_none : (s : State) (l : Line) (c : Change) → change_of l ≡ Some c → rows s l ≡ []
rows_none s (line.Ls p) c e = absurd (none-some c e)
rows_none s (line.Cat p) c e = absurd (none-some c e)
rows_none s line.StartBackupBlock c e = absurd (none-some c e)
rows_none s line.ListBackups c e = absurd (none-some c e)
rows_none s line.LatestBackup c e = absurd (none-some c e)
rows_none s line.MachineDirectory c e = absurd (none-some c e)
rows_none s (line.StoreLs at) c e = absurd (none-some c e)
rows_none s (line.StoreCat item) c e = absurd (none-some c e)
rows_none s (line.StoreStat item) c e = absurd (none-some c e)
rows_none s line.StoreDf c e = absurd (none-some c e)
rows_none s _ c e = refl

change_is : (s : State) (l : Line) (c : Change) → change_of l ≡ Some c → effect (change_tests s c) [] (changed s c) (kept (changed s c) ∷ []) s ≡ line_effect s l
change_is s l c e = (λ i. record { tested = tests_by s l (sym e i); rows = sym (rows_none s l c e) i; after = after_by s l (sym e i); commits = done_by s l (sym e i); after_refused = after_refused_by s l (sym e i); undone = undone_by s l (sym e i) })

module _ (l : Line) (m new : Seen) (start end : Log) (result : Result (List ReplyRow) LineFault) where
  abbrev s : State
  s = state_on m (now start)

  pub did_change : (c : Change) → change_of l ≡ Some c → Does (effect (change_tests s c) [] (changed s c) (kept (changed s c) ∷ []) s) m new start end result → Did (MayDo s l) m new start end result
  did_change c e does = record { effect = line_effect s l; may = plain_may s l; does = subst (λ (d : Effect). Does d m new start end result) (change_is s l c e) does }

  pub did_other : change_of l ≡ None → Did (MayDoChangeless s l) m new start end result → Did (MayDo s l) m new start end result
  did_other e did = record { effect = did.effect; may = subst (λ (o : Option Change). MayDoBy s l o did.effect) (sym e) did.may; does = did.does }

-- want of memory before anything is done
pub did_nothing : (l : Line) (m : Seen) (start : Log) → Did (MayDo (state_on m (now start)) l) m m start start (Err Memory)
did_nothing l m start = record { effect = line_effect (state_on m (now start)) l; may = plain_may (state_on m (now start)) l; does = record { replies = tt; standing = tt; moments = Passes-none start _ } }

-- a line that isn't built
pub did_default : (l : Line) (m : Seen) (start : Log)
    → ((x : _) → l ≡ line.At x → ⊥) → ((x : _) (y : _) (z : _) → l ≡ line.NewVolume x y z → ⊥) → ((x : _) → l ≡ line.NewStore x → ⊥)
    → ((x : _) → l ≡ line.Ls x → ⊥) → ((x : _) → l ≡ line.Cat x → ⊥) → (l ≡ line.StartBackupBlock → ⊥)
    → (l ≡ line.ListBackups → ⊥) → (l ≡ line.LatestBackup → ⊥) → (l ≡ line.MachineDirectory → ⊥) → ((x : _) → l ≡ line.StoreLs x → ⊥) → ((x : _) → l ≡ line.StoreCat x → ⊥)
    → ((x : _) → l ≡ line.StoreStat x → ⊥) → (l ≡ line.StoreDf → ⊥)
    → Standing m (now start) → Did (MayDoChangeless (state_on m (now start)) l) m m start start (Err (RefusedFor NotBuilt))
did_default (line.At x) m start a b c d e f g h i j k n o standing = absurd (a x refl)
did_default (line.NewVolume x y z) m start a b c d e f g h i j k n o standing = absurd (b x y z refl)
did_default (line.NewStore x) m start a b c d e f g h i j k n o standing = absurd (c x refl)
did_default (line.Ls x) m start a b c d e f g h i j k n o standing = absurd (d x refl)
did_default (line.Cat x) m start a b c d e f g h i j k n o standing = absurd (e x refl)
did_default line.StartBackupBlock m start a b c d e f g h i j k n o standing = absurd (f refl)
did_default line.ListBackups m start a b c d e f g h i j k n o standing = absurd (g refl)
did_default line.LatestBackup m start a b c d e f g h i j k n o standing = absurd (h refl)
did_default line.MachineDirectory m start a b c d e f g h i j k n o standing = absurd (i refl)
did_default (line.StoreLs x) m start a b c d e f g h i j k n o standing = absurd (j x refl)
did_default (line.StoreCat x) m start a b c d e f g h i j k n o standing = absurd (k x refl)
did_default (line.StoreStat x) m start a b c d e f g h i j k n o standing = absurd (n x refl)
did_default line.StoreDf m start a b c d e f g h i j k n o standing = absurd (o refl)
did_default l m start a b c d e f g h i j k n o standing = record {
  effect = changeless_effect (state_on m (now start)) l;
  may = refl;
  does = record { replies = (refl, refl); standing = standing; moments = Passes-none start _ };
}
