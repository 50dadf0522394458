use Rattle.std.proofs.Common.{◌≡◌, ◌≤◌, ℕ, List, Option, Err, ap, refl, subst, sym, ◌∙◌}
use Rattle.tm_text.specs.declared.line.Line.{Line}
use Rattle.tm_volume.specs.Answers.{IsSpent}
use Rattle.tm_volume.specs.Reads.{SideReads}
use Rattle.tm_volume.specs.Stored.{StoredVolume}
use Rattle.tm_world.specs.Disk.{Image}
use Rattle.tm_world.specs.Log.{now, Passes}
use Rattle.tm_world.specs.Torn.{as_read}
use Rattle.tm_machine.specs.States.{Stored}
use Rattle.tm_machine.specs.Stops.{CanOpen, CanOpenStore, PairReads}
use Rattle.tm_run.specs.Claims.{KeepsBoth, KeepsStore, ReadsFit}
use Rattle.tm_command.specs.Command.{texts}
use Rattle.tm_run.specs.Moments.{RanOver}
use Rattle.tm_run.specs.Outcomes.{bad_line, usage}
use Rattle.tm_run.specs.Pairs.{found}
use Rattle.tm_run.specs.Places.{ElsewhereSame, FindsPair, LeavesAt}
use Rattle.tm_run.specs.Ends.{SaysAll, SaysPrefix}
use Rattle.tm_run.specs.Readings.{EndsAsOrCut}
use Rattle.tm_run.specs.declared.status.Status.TheVariants as status
use Rattle.tm_run.proofs.FindingLemmas.{finding_reads}
use Rattle.tm_run.proofs.ImageLemmas.{cut_is_fault, cut_is_memory}
use Rattle.tm_run.proofs.PairLemmas.{image_small}
use Rattle.tm_world.proofs.Going.{Passes-none}
use Rattle.tm_run.proofs.SayLemmas.{said_nothing}
use Rattle.tm_run.proofs.PathLemmas.{besides_after, elsewhere_after, none_beside, none_shut, ran_after, ran_none, shut_after}
use Rattle.tm_run.proofs.TopLemmas.{command_tells, leaves_plain, passes_plain, same_outside, gave, says_a_prefix, no_fault, ends_well, ends_as, not_before, not_started, of_long, of_bad, script_not_started, speaks_stand, stand_elsewhere, stand_fit, start_fit, start_of, start_tells, gave_run, run_prefix, reading_stand, words_stand}
use Rattle.tm_base.specs.Limits.{max_blocks}
use Rattle.tm_run.proofs.top.run.Goals as goal

pub returns-in-Err-Usage-clause-outcome : goal.returns-in-Err-Usage-clause-outcome
returns-in-Err-Usage-clause-outcome g c told fits whole =
    gave (texts c.args.words.now) _ _ _ _ _ _ (same_outside _) (usage (c.in-Err-Usage.ensures.usage (ap Err c.in-Err-Usage.field-0-is))) (ends_well _ _ c.say_last.ensures.status whole)
    (c.say_last.ensures.said told (no_fault _ whole))

pub returns-in-Err-Usage-clause-prefix : goal.returns-in-Err-Usage-clause-prefix
returns-in-Err-Usage-clause-prefix g c told fits =
    says_a_prefix c.one_outcome.ensures.one (texts c.args.words.now) _ _ _ _ _ (g.met.W.World.small told c.args.world.now) (same_outside _) (usage (c.in-Err-Usage.ensures.usage (ap Err c.in-Err-Usage.field-0-is))) (c.say_last.ensures.cut told)

pub returns-in-Ok-read_lines-clause-outcome : goal.returns-in-Ok-read_lines-clause-outcome
returns-in-Ok-read_lines-clause-outcome g c told fits whole =
    let old = now (g.W.World.log c.args.world.now) in
    let mid = now (g.W.World.log c.read_lines.new.world) in
    let command = c.in-Ok.command in
    let start = start_of (texts c.args.words.now) old mid command.volume.now command.store.now command.script.now command.create c.in-Ok-read_lines.lines (c.read_lines.ensures.reading told) c.in-Ok.ensures.command (c.in-Ok-read_lines.ensures.lines told) in
    gave_run (texts c.args.words.now) old mid (now (g.W.World.log c.run_command.new.world)) c.in-Ok-read_lines.lines (as_read (found command.volume.now command.create mid)) (as_read (found command.store.now command.create mid))
    c.run_command.result (c.read_lines.ensures.reading told) start (c.run_command.ensures.outcome told (fits c.in-Ok-read_lines.lines _ _ start) whole)

pub returns-in-Ok-read_lines-clause-prefix : goal.returns-in-Ok-read_lines-clause-prefix
returns-in-Ok-read_lines-clause-prefix g c told fits =
    let old = now (g.W.World.log c.args.world.now) in
    let mid = now (g.W.World.log c.read_lines.new.world) in
    let command = c.in-Ok.command in
    let start = start_of (texts c.args.words.now) old mid command.volume.now command.store.now command.script.now command.create c.in-Ok-read_lines.lines (c.read_lines.ensures.reading told) c.in-Ok.ensures.command (c.in-Ok-read_lines.ensures.lines told) in
    run_prefix c.one_outcome.ensures.run (texts c.args.words.now) old mid (now (g.W.World.log c.run_command.new.world)) c.in-Ok-read_lines.lines (as_read (found command.volume.now command.create mid))
    (as_read (found command.store.now command.create mid)) (c.read_lines.ensures.reading told) start (c.run_command.ensures.prefix told (fits c.in-Ok-read_lines.lines _ _ start))

pub returns-in-Err-TooLong-clause-outcome : goal.returns-in-Err-TooLong-clause-outcome
returns-in-Err-TooLong-clause-outcome g c told fits whole =
    gave _ _ _ _ _ _ _ (c.read_lines.ensures.reading told)
    (of_long _ _ _ _ _ _ _ c.in-Ok.ensures.command c.in-Err-TooLong.field-0-is (c.in-Err-TooLong.ensures.lines told))
    (ends_well _ _ c.say_last-in-Err-TooLong.ensures.status whole) (c.say_last-in-Err-TooLong.ensures.said told (no_fault _ whole))

pub returns-in-Err-TooLong-clause-prefix : goal.returns-in-Err-TooLong-clause-prefix
returns-in-Err-TooLong-clause-prefix g c told fits =
    says_a_prefix c.one_outcome.ensures.one _ _ _ _ _ _ (g.met.W.World.small told c.args.world.now) (c.read_lines.ensures.reading told)
    (of_long _ _ _ _ _ _ _ c.in-Ok.ensures.command c.in-Err-TooLong.field-0-is (c.in-Err-TooLong.ensures.lines told))
    (c.say_last-in-Err-TooLong.ensures.cut told)

pub returns-in-Err-BadLine-clause-outcome : goal.returns-in-Err-BadLine-clause-outcome
returns-in-Err-BadLine-clause-outcome g c told fits whole =
    let line = c.in-Err-BadLine.line in
    let ended = c.say_bad_line.result in
    let mid = now (g.W.World.log c.read_lines.new.world) in
    let new = now (g.W.World.log c.say_bad_line.new.world) in
    let is = ends_as (status.Script line) ended (subst (λ (n : ℕ). EndsAsOrCut (status.Script n) ended) c.in-Err-BadLine.line-is c.say_bad_line.ensures.status) whole in
    let said : ended ≡ status.Script line → SaysAll (bad_line line) mid new =
    subst (λ (n : ℕ). ended ≡ status.Script n → SaysAll (bad_line n) mid new) c.in-Err-BadLine.line-is (c.say_bad_line.ensures.said told) in
    gave _ _ _ _ (status.Script line) _ (bad_line line) (c.read_lines.ensures.reading told)
    (of_bad _ _ _ _ _ _ _ line c.in-Ok.ensures.command c.in-Err-BadLine.field-0-is (c.in-Err-BadLine.ensures.lines told)) is (said is)

pub returns-in-Err-BadLine-clause-prefix : goal.returns-in-Err-BadLine-clause-prefix
returns-in-Err-BadLine-clause-prefix g c told fits =
    let line = c.in-Err-BadLine.line in
    let mid = now (g.W.World.log c.read_lines.new.world) in
    let new = now (g.W.World.log c.say_bad_line.new.world) in
    says_a_prefix c.one_outcome.ensures.one _ _ _ _ (status.Script line) (bad_line line) (g.met.W.World.small told c.args.world.now) (c.read_lines.ensures.reading told)
    (of_bad _ _ _ _ _ _ _ line c.in-Ok.ensures.command c.in-Err-BadLine.field-0-is (c.in-Err-BadLine.ensures.lines told))
    (subst (λ (n : ℕ). SaysPrefix (bad_line n) mid new) c.in-Err-BadLine.line-is (c.say_bad_line.ensures.cut told))

pub returns-in-Err-Usage-clause-history : goal.returns-in-Err-Usage-clause-history
returns-in-Err-Usage-clause-history g c told lines v z start r reads unspent =
    let old = g.W.World.log c.args.world.now in
    absurd (not_started (texts c.args.words.now) (now old) (c.in-Err-Usage.ensures.usage (ap Err c.in-Err-Usage.field-0-is)) lines v z start)

pub returns-in-Err-Usage-clause-shut_volume : goal.returns-in-Err-Usage-clause-shut_volume
returns-in-Err-Usage-clause-shut_volume g c told lines v z start shut =
    let old = g.W.World.log c.args.world.now in
    absurd (not_started (texts c.args.words.now) (now old) (c.in-Err-Usage.ensures.usage (ap Err c.in-Err-Usage.field-0-is)) lines v z start)

pub returns-in-Err-Usage-clause-shut_store : goal.returns-in-Err-Usage-clause-shut_store
returns-in-Err-Usage-clause-shut_store g c told lines v z start r reads shut =
    let old = g.W.World.log c.args.world.now in
    absurd (not_started (texts c.args.words.now) (now old) (c.in-Err-Usage.ensures.usage (ap Err c.in-Err-Usage.field-0-is)) lines v z start)

pub returns-in-Err-TooLong-clause-history : goal.returns-in-Err-TooLong-clause-history
returns-in-Err-TooLong-clause-history g c told lines v z start r reads unspent =
    let old = g.W.World.log c.args.world.now in
    absurd (script_not_started c.one_outcome.ensures.run (texts c.args.words.now) (now old) 0 _ (of_long _ _ _ _ _ _ _ c.in-Ok.ensures.command c.in-Err-TooLong.field-0-is (c.in-Err-TooLong.ensures.lines told)) lines v z start)

pub returns-in-Err-TooLong-clause-shut_volume : goal.returns-in-Err-TooLong-clause-shut_volume
returns-in-Err-TooLong-clause-shut_volume g c told lines v z start shut =
    let old = g.W.World.log c.args.world.now in
    absurd (script_not_started c.one_outcome.ensures.run (texts c.args.words.now) (now old) 0 _ (of_long _ _ _ _ _ _ _ c.in-Ok.ensures.command c.in-Err-TooLong.field-0-is (c.in-Err-TooLong.ensures.lines told)) lines v z start)

pub returns-in-Err-TooLong-clause-shut_store : goal.returns-in-Err-TooLong-clause-shut_store
returns-in-Err-TooLong-clause-shut_store g c told lines v z start r reads shut =
    let old = g.W.World.log c.args.world.now in
    absurd (script_not_started c.one_outcome.ensures.run (texts c.args.words.now) (now old) 0 _ (of_long _ _ _ _ _ _ _ c.in-Ok.ensures.command c.in-Err-TooLong.field-0-is (c.in-Err-TooLong.ensures.lines told)) lines v z start)

pub returns-in-Err-BadLine-clause-history : goal.returns-in-Err-BadLine-clause-history
returns-in-Err-BadLine-clause-history g c told lines v z start r reads unspent =
    let old = g.W.World.log c.args.world.now in
    absurd (script_not_started c.one_outcome.ensures.run (texts c.args.words.now) (now old) c.in-Err-BadLine.line _ (of_bad _ _ _ _ _ _ _ c.in-Err-BadLine.line c.in-Ok.ensures.command c.in-Err-BadLine.field-0-is (c.in-Err-BadLine.ensures.lines told)) lines v z start)

pub returns-in-Err-BadLine-clause-shut_volume : goal.returns-in-Err-BadLine-clause-shut_volume
returns-in-Err-BadLine-clause-shut_volume g c told lines v z start shut =
    let old = g.W.World.log c.args.world.now in
    absurd (script_not_started c.one_outcome.ensures.run (texts c.args.words.now) (now old) c.in-Err-BadLine.line _ (of_bad _ _ _ _ _ _ _ c.in-Err-BadLine.line c.in-Ok.ensures.command c.in-Err-BadLine.field-0-is (c.in-Err-BadLine.ensures.lines told)) lines v z start)

pub returns-in-Err-BadLine-clause-shut_store : goal.returns-in-Err-BadLine-clause-shut_store
returns-in-Err-BadLine-clause-shut_store g c told lines v z start r reads shut =
    let old = g.W.World.log c.args.world.now in
    absurd (script_not_started c.one_outcome.ensures.run (texts c.args.words.now) (now old) c.in-Err-BadLine.line _ (of_bad _ _ _ _ _ _ _ c.in-Err-BadLine.line c.in-Ok.ensures.command c.in-Err-BadLine.field-0-is (c.in-Err-BadLine.ensures.lines told)) lines v z start)

pub returns-in-Err-Fault-clause-history : goal.returns-in-Err-Fault-clause-history
returns-in-Err-Fault-clause-history g c told lines v z start r reads unspent =
    let old = g.W.World.log c.args.world.now in
    let new = g.W.World.log c.read_lines.new.world in
    ran_none start.volume start.store start.create old new (finding_reads start.volume start.store start.create old new (c.read_lines.ensures.any_moment told))
    c.plain_is_history.ensures.history lines v.count z.count r _ (λ whole. whole)

pub returns-in-Err-Fault-clause-shut_volume : goal.returns-in-Err-Fault-clause-shut_volume
returns-in-Err-Fault-clause-shut_volume g c told lines v z start shut =
    let old = g.W.World.log c.args.world.now in
    let new = g.W.World.log c.read_lines.new.world in
    none_shut start.volume start.store start.create old new (finding_reads start.volume start.store start.create old new (c.read_lines.ensures.any_moment told))

pub returns-in-Err-Fault-clause-shut_store : goal.returns-in-Err-Fault-clause-shut_store
returns-in-Err-Fault-clause-shut_store g c told lines v z start r reads shut =
    let old = g.W.World.log c.args.world.now in
    let new = g.W.World.log c.read_lines.new.world in
    none_beside start.volume start.store start.create old new (finding_reads start.volume start.store start.create old new (c.read_lines.ensures.any_moment told)) r

pub returns-in-Err-Memory-read_lines-clause-history : goal.returns-in-Err-Memory-read_lines-clause-history
returns-in-Err-Memory-read_lines-clause-history g c told lines v z start r reads unspent =
    let old = g.W.World.log c.args.world.now in
    let new = g.W.World.log c.read_lines.new.world in
    ran_none start.volume start.store start.create old new (finding_reads start.volume start.store start.create old new (c.read_lines.ensures.any_moment told))
    c.plain_is_history.ensures.history lines v.count z.count r _ (λ whole. whole)

pub returns-in-Err-Memory-read_lines-clause-shut_volume : goal.returns-in-Err-Memory-read_lines-clause-shut_volume
returns-in-Err-Memory-read_lines-clause-shut_volume g c told lines v z start shut =
    let old = g.W.World.log c.args.world.now in
    let new = g.W.World.log c.read_lines.new.world in
    none_shut start.volume start.store start.create old new (finding_reads start.volume start.store start.create old new (c.read_lines.ensures.any_moment told))

pub returns-in-Err-Memory-read_lines-clause-shut_store : goal.returns-in-Err-Memory-read_lines-clause-shut_store
returns-in-Err-Memory-read_lines-clause-shut_store g c told lines v z start r reads shut =
    let old = g.W.World.log c.args.world.now in
    let new = g.W.World.log c.read_lines.new.world in
    none_beside start.volume start.store start.create old new (finding_reads start.volume start.store start.create old new (c.read_lines.ensures.any_moment told)) r

pub returns-in-Err-Usage-clause-elsewhere : goal.returns-in-Err-Usage-clause-elsewhere
returns-in-Err-Usage-clause-elsewhere g c told =
    let old = g.W.World.log c.args.world.now in
    let new = g.W.World.log c.say_last.new.world in
    stand_elsewhere (texts c.args.words.now) old new (words_stand old new _ (c.say_last.ensures.any_moment told))

pub returns-in-Err-Usage-clause-fits : goal.returns-in-Err-Usage-clause-fits
returns-in-Err-Usage-clause-fits g c told =
    let old = g.W.World.log c.args.world.now in
    let new = g.W.World.log c.say_last.new.world in
    stand_fit (texts c.args.words.now) old new (words_stand old new _ (c.say_last.ensures.any_moment told))

pub returns-in-Err-Usage-clause-images : goal.returns-in-Err-Usage-clause-images
returns-in-Err-Usage-clause-images g c told none =
    let old = g.W.World.log c.args.world.now in
    let new = g.W.World.log c.say_last.new.world in
    words_stand old new _ (c.say_last.ensures.any_moment told)

pub returns-in-Err-Usage-clause-before : goal.returns-in-Err-Usage-clause-before
returns-in-Err-Usage-clause-before g c told before =
    let old = g.W.World.log c.args.world.now in
    let new = g.W.World.log c.say_last.new.world in
    words_stand old new _ (c.say_last.ensures.any_moment told)

pub returns-in-Err-TooLong-clause-elsewhere : goal.returns-in-Err-TooLong-clause-elsewhere
returns-in-Err-TooLong-clause-elsewhere g c told =
    let old = g.W.World.log c.args.world.now in
    let new = g.W.World.log c.say_last-in-Err-TooLong.new.world in
    stand_elsewhere (texts c.args.words.now) old new (speaks_stand old (g.W.World.log c.read_lines.new.world) new _ (c.read_lines.ensures.any_moment told) (c.say_last-in-Err-TooLong.ensures.any_moment told))

pub returns-in-Err-TooLong-clause-fits : goal.returns-in-Err-TooLong-clause-fits
returns-in-Err-TooLong-clause-fits g c told =
    let old = g.W.World.log c.args.world.now in
    let new = g.W.World.log c.say_last-in-Err-TooLong.new.world in
    stand_fit (texts c.args.words.now) old new (speaks_stand old (g.W.World.log c.read_lines.new.world) new _ (c.read_lines.ensures.any_moment told) (c.say_last-in-Err-TooLong.ensures.any_moment told))

pub returns-in-Err-TooLong-clause-images : goal.returns-in-Err-TooLong-clause-images
returns-in-Err-TooLong-clause-images g c told none =
    let old = g.W.World.log c.args.world.now in
    let new = g.W.World.log c.say_last-in-Err-TooLong.new.world in
    speaks_stand old (g.W.World.log c.read_lines.new.world) new _ (c.read_lines.ensures.any_moment told) (c.say_last-in-Err-TooLong.ensures.any_moment told)

pub returns-in-Err-TooLong-clause-before : goal.returns-in-Err-TooLong-clause-before
returns-in-Err-TooLong-clause-before g c told before =
    let old = g.W.World.log c.args.world.now in
    let new = g.W.World.log c.say_last-in-Err-TooLong.new.world in
    speaks_stand old (g.W.World.log c.read_lines.new.world) new _ (c.read_lines.ensures.any_moment told) (c.say_last-in-Err-TooLong.ensures.any_moment told)

pub returns-in-Err-BadLine-clause-elsewhere : goal.returns-in-Err-BadLine-clause-elsewhere
returns-in-Err-BadLine-clause-elsewhere g c told =
    let old = g.W.World.log c.args.world.now in
    let new = g.W.World.log c.say_bad_line.new.world in
    stand_elsewhere (texts c.args.words.now) old new (speaks_stand old (g.W.World.log c.read_lines.new.world) new _ (c.read_lines.ensures.any_moment told) (c.say_bad_line.ensures.any_moment told))

pub returns-in-Err-BadLine-clause-fits : goal.returns-in-Err-BadLine-clause-fits
returns-in-Err-BadLine-clause-fits g c told =
    let old = g.W.World.log c.args.world.now in
    let new = g.W.World.log c.say_bad_line.new.world in
    stand_fit (texts c.args.words.now) old new (speaks_stand old (g.W.World.log c.read_lines.new.world) new _ (c.read_lines.ensures.any_moment told) (c.say_bad_line.ensures.any_moment told))

pub returns-in-Err-BadLine-clause-images : goal.returns-in-Err-BadLine-clause-images
returns-in-Err-BadLine-clause-images g c told none =
    let old = g.W.World.log c.args.world.now in
    let new = g.W.World.log c.say_bad_line.new.world in
    speaks_stand old (g.W.World.log c.read_lines.new.world) new _ (c.read_lines.ensures.any_moment told) (c.say_bad_line.ensures.any_moment told)

pub returns-in-Err-BadLine-clause-before : goal.returns-in-Err-BadLine-clause-before
returns-in-Err-BadLine-clause-before g c told before =
    let old = g.W.World.log c.args.world.now in
    let new = g.W.World.log c.say_bad_line.new.world in
    speaks_stand old (g.W.World.log c.read_lines.new.world) new _ (c.read_lines.ensures.any_moment told) (c.say_bad_line.ensures.any_moment told)

pub returns-in-Err-Fault-clause-elsewhere : goal.returns-in-Err-Fault-clause-elsewhere
returns-in-Err-Fault-clause-elsewhere g c told =
    let old = g.W.World.log c.args.world.now in
    let new = g.W.World.log c.read_lines.new.world in
    stand_elsewhere (texts c.args.words.now) old new (reading_stand old new (c.read_lines.ensures.any_moment told))

pub returns-in-Err-Fault-clause-fits : goal.returns-in-Err-Fault-clause-fits
returns-in-Err-Fault-clause-fits g c told =
    let old = g.W.World.log c.args.world.now in
    let new = g.W.World.log c.read_lines.new.world in
    stand_fit (texts c.args.words.now) old new (reading_stand old new (c.read_lines.ensures.any_moment told))

pub returns-in-Err-Fault-clause-images : goal.returns-in-Err-Fault-clause-images
returns-in-Err-Fault-clause-images g c told none =
    let old = g.W.World.log c.args.world.now in
    let new = g.W.World.log c.read_lines.new.world in
    reading_stand old new (c.read_lines.ensures.any_moment told)

pub returns-in-Err-Fault-clause-before : goal.returns-in-Err-Fault-clause-before
returns-in-Err-Fault-clause-before g c told before =
    let old = g.W.World.log c.args.world.now in
    let new = g.W.World.log c.read_lines.new.world in
    reading_stand old new (c.read_lines.ensures.any_moment told)

pub returns-in-Err-Memory-read_lines-clause-elsewhere : goal.returns-in-Err-Memory-read_lines-clause-elsewhere
returns-in-Err-Memory-read_lines-clause-elsewhere g c told =
    let old = g.W.World.log c.args.world.now in
    let new = g.W.World.log c.read_lines.new.world in
    stand_elsewhere (texts c.args.words.now) old new (reading_stand old new (c.read_lines.ensures.any_moment told))

pub returns-in-Err-Memory-read_lines-clause-fits : goal.returns-in-Err-Memory-read_lines-clause-fits
returns-in-Err-Memory-read_lines-clause-fits g c told =
    let old = g.W.World.log c.args.world.now in
    let new = g.W.World.log c.read_lines.new.world in
    stand_fit (texts c.args.words.now) old new (reading_stand old new (c.read_lines.ensures.any_moment told))

pub returns-in-Err-Memory-read_lines-clause-images : goal.returns-in-Err-Memory-read_lines-clause-images
returns-in-Err-Memory-read_lines-clause-images g c told none =
    let old = g.W.World.log c.args.world.now in
    let new = g.W.World.log c.read_lines.new.world in
    reading_stand old new (c.read_lines.ensures.any_moment told)

pub returns-in-Err-Memory-read_lines-clause-before : goal.returns-in-Err-Memory-read_lines-clause-before
returns-in-Err-Memory-read_lines-clause-before g c told before =
    let old = g.W.World.log c.args.world.now in
    let new = g.W.World.log c.read_lines.new.world in
    reading_stand old new (c.read_lines.ensures.any_moment told)

pub returns-in-Err-Usage-clause-silent : goal.returns-in-Err-Usage-clause-silent
returns-in-Err-Usage-clause-silent g c told none cut = cut_is_fault status.Usage c.say_last.result (λ h. h) c.say_last.ensures.status cut

pub returns-in-Err-TooLong-clause-silent : goal.returns-in-Err-TooLong-clause-silent
returns-in-Err-TooLong-clause-silent g c told none cut = cut_is_fault (status.Script 0) c.say_last-in-Err-TooLong.result (λ h. h) c.say_last-in-Err-TooLong.ensures.status cut

pub returns-in-Err-BadLine-clause-silent : goal.returns-in-Err-BadLine-clause-silent
returns-in-Err-BadLine-clause-silent g c told none cut =
    cut_is_memory (status.Script c.in-Err-BadLine.line) c.say_bad_line.result (λ h. h)
    (subst (λ (n : ℕ). EndsAsOrCut (status.Script n) c.say_bad_line.result) c.in-Err-BadLine.line-is c.say_bad_line.ensures.status) (λ is. c.say_bad_line.ensures.silent told is ∙ (c.read_lines.ensures.reading told).said) cut

pub returns-in-Err-Fault-clause-silent : goal.returns-in-Err-Fault-clause-silent
returns-in-Err-Fault-clause-silent g c told none cut = (c.read_lines.ensures.reading told).said

pub returns-in-Err-Memory-read_lines-clause-silent : goal.returns-in-Err-Memory-read_lines-clause-silent
returns-in-Err-Memory-read_lines-clause-silent g c told none cut = (c.read_lines.ensures.reading told).said

pub returns-in-Ok-read_lines-clause-history : goal.returns-in-Ok-read_lines-clause-history
returns-in-Ok-read_lines-clause-history g c told =
    let old = g.W.World.log c.args.world.now in
    let mid = g.W.World.log c.read_lines.new.world in
    let new = g.W.World.log c.run_command.new.world in
    let command = c.in-Ok.command in
    let p = command.volume.now in
    let q = command.store.now in
    let create = command.create in
    let v = as_read (found p create (now mid)) in
    let z = as_read (found q create (now mid)) in
    let lines = c.in-Ok-read_lines.lines in
    let finding = finding_reads p q create old mid (c.read_lines.ensures.any_moment told) in
    let start = start_of (texts c.args.words.now) (now old) (now mid) p q command.script.now create lines (c.read_lines.ensures.reading told) c.in-Ok.ensures.command (c.in-Ok-read_lines.ensures.lines told) in
    start_tells c.one_outcome.ensures.start (texts c.args.words.now) (now old) lines v z start
    (λ (ls : List Line) (u w : Image) (x y : List ℕ) (make : Option ℕ). (r : Stored) → PairReads r u w → ¬ IsSpent r.volume → RanOver ls x y make u.count w.count r old new c.run_command.result)
    (λ r reads unspent. ran_after p q create old mid new finding lines v.count z.count r c.run_command.result (c.run_command.ensures.history told r reads unspent))

pub returns-in-Ok-read_lines-clause-shut_volume : goal.returns-in-Ok-read_lines-clause-shut_volume
returns-in-Ok-read_lines-clause-shut_volume g c told =
    let old = g.W.World.log c.args.world.now in
    let mid = g.W.World.log c.read_lines.new.world in
    let new = g.W.World.log c.run_command.new.world in
    let command = c.in-Ok.command in
    let p = command.volume.now in
    let q = command.store.now in
    let create = command.create in
    let v = as_read (found p create (now mid)) in
    let z = as_read (found q create (now mid)) in
    let lines = c.in-Ok-read_lines.lines in
    let finding = finding_reads p q create old mid (c.read_lines.ensures.any_moment told) in
    let start = start_of (texts c.args.words.now) (now old) (now mid) p q command.script.now create lines (c.read_lines.ensures.reading told) c.in-Ok.ensures.command (c.in-Ok-read_lines.ensures.lines told) in
    start_tells c.one_outcome.ensures.start (texts c.args.words.now) (now old) lines v z start
    (λ (ls : List Line) (u w : Image) (x y : List ℕ) (make : Option ℕ). (CanOpen u → ⊥) → Passes old new (KeepsBoth x y make (now old)))
    (λ shut. shut_after p q create old mid new finding (c.run_command.ensures.shut_volume told shut))

pub returns-in-Ok-read_lines-clause-shut_store : goal.returns-in-Ok-read_lines-clause-shut_store
returns-in-Ok-read_lines-clause-shut_store g c told =
    let old = g.W.World.log c.args.world.now in
    let mid = g.W.World.log c.read_lines.new.world in
    let new = g.W.World.log c.run_command.new.world in
    let command = c.in-Ok.command in
    let p = command.volume.now in
    let q = command.store.now in
    let create = command.create in
    let v = as_read (found p create (now mid)) in
    let z = as_read (found q create (now mid)) in
    let lines = c.in-Ok-read_lines.lines in
    let finding = finding_reads p q create old mid (c.read_lines.ensures.any_moment told) in
    let start = start_of (texts c.args.words.now) (now old) (now mid) p q command.script.now create lines (c.read_lines.ensures.reading told) c.in-Ok.ensures.command (c.in-Ok-read_lines.ensures.lines told) in
    start_tells c.one_outcome.ensures.start (texts c.args.words.now) (now old) lines v z start
    (λ (ls : List Line) (u w : Image) (x y : List ℕ) (make : Option ℕ). (r : Option StoredVolume) → SideReads u r → (CanOpenStore w → ⊥) → Passes old new (KeepsStore r x y make (now old)))
    (λ r reads shut. besides_after p q create old mid new finding r (c.run_command.ensures.shut_store told r reads shut))

pub returns-in-Ok-read_lines-clause-elsewhere : goal.returns-in-Ok-read_lines-clause-elsewhere
returns-in-Ok-read_lines-clause-elsewhere g c told =
    let old = g.W.World.log c.args.world.now in
    let mid = g.W.World.log c.read_lines.new.world in
    let new = g.W.World.log c.run_command.new.world in
    let command = c.in-Ok.command in
    let p = command.volume.now in
    let q = command.store.now in
    let create = command.create in
    let finding = finding_reads p q create old mid (c.read_lines.ensures.any_moment told) in
    command_tells (texts c.args.words.now) p q command.script.now create c.in-Ok.ensures.command
    (λ (x y : List ℕ) (make : Option ℕ). Passes old new (ElsewhereSame x y (now old)))
    (elsewhere_after p q create old mid new finding (c.run_command.ensures.elsewhere told))

pub returns-in-Ok-read_lines-clause-fits : goal.returns-in-Ok-read_lines-clause-fits
returns-in-Ok-read_lines-clause-fits g c told =
    let old = g.W.World.log c.args.world.now in
    let mid = g.W.World.log c.read_lines.new.world in
    let new = g.W.World.log c.run_command.new.world in
    let command = c.in-Ok.command in
    let p = command.volume.now in
    let q = command.store.now in
    let create = command.create in
    let v = as_read (found p create (now mid)) in
    let z = as_read (found q create (now mid)) in
    let lines = c.in-Ok-read_lines.lines in
    let finding = finding_reads p q create old mid (c.read_lines.ensures.any_moment told) in
    let start = start_of (texts c.args.words.now) (now old) (now mid) p q command.script.now create lines (c.read_lines.ensures.reading told) c.in-Ok.ensures.command (c.in-Ok-read_lines.ensures.lines told) in
    let few : v.count ≤ max_blocks = subst (λ (u : Image). u.count ≤ max_blocks) (sym start.volume_is) (image_small (texts c.args.words.now) p q command.script.now create (now old) (g.met.W.World.small told c.args.world.now) c.in-Ok.ensures.command) in
    command_tells (texts c.args.words.now) p q command.script.now create c.in-Ok.ensures.command
    (λ (x y : List ℕ) (make : Option ℕ). FindsPair x y make ReadsFit (now old) → Passes old new (LeavesAt x y ReadsFit))
    (λ finds. start_fit c.sides_read_as_one.ensures c.plain_where_fits.ensures.history c.plain_where_fits.ensures.held (texts c.args.words.now) old new c.run_command.result lines v z start few
    (λ r reads unspent. ran_after p q create old mid new finding lines v.count z.count r c.run_command.result (c.run_command.ensures.history told r reads unspent))
    (λ shut. shut_after p q create old mid new finding (c.run_command.ensures.shut_volume told shut)) finds)

pub returns-in-Ok-read_lines-clause-images : goal.returns-in-Ok-read_lines-clause-images
returns-in-Ok-read_lines-clause-images g c told none =
    let old = g.W.World.log c.args.world.now in
    let mid = g.W.World.log c.read_lines.new.world in
    let command = c.in-Ok.command in
    let p = command.volume.now in
    let q = command.store.now in
    let create = command.create in
    let v = as_read (found p create (now mid)) in
    let z = as_read (found q create (now mid)) in
    let lines = c.in-Ok-read_lines.lines in
    let start = start_of (texts c.args.words.now) (now old) (now mid) p q command.script.now create lines (c.read_lines.ensures.reading told) c.in-Ok.ensures.command (c.in-Ok-read_lines.ensures.lines told) in
    absurd (none lines v z start)

pub returns-in-Ok-read_lines-clause-silent : goal.returns-in-Ok-read_lines-clause-silent
returns-in-Ok-read_lines-clause-silent g c told none cut =
    let old = g.W.World.log c.args.world.now in
    let mid = g.W.World.log c.read_lines.new.world in
    let command = c.in-Ok.command in
    let p = command.volume.now in
    let q = command.store.now in
    let create = command.create in
    let v = as_read (found p create (now mid)) in
    let z = as_read (found q create (now mid)) in
    let lines = c.in-Ok-read_lines.lines in
    let start = start_of (texts c.args.words.now) (now old) (now mid) p q command.script.now create lines (c.read_lines.ensures.reading told) c.in-Ok.ensures.command (c.in-Ok-read_lines.ensures.lines told) in
    c.run_command.ensures.silent told (λ can also. none lines v z start can also) cut ∙ (c.read_lines.ensures.reading told).said

pub returns-in-Ok-read_lines-clause-before : goal.returns-in-Ok-read_lines-clause-before
returns-in-Ok-read_lines-clause-before g c told before = not_before c.run_command.result c.run_command.ensures.ends before

pub returns-in-Ok-read_lines-clause-blocks : goal.returns-in-Ok-read_lines-clause-blocks
returns-in-Ok-read_lines-clause-blocks g c before = not_before c.run_command.result c.run_command.ensures.ends before

pub returns-in-Err-Usage-clause-any_moment : goal.returns-in-Err-Usage-clause-any_moment
returns-in-Err-Usage-clause-any_moment g c told fits =
    passes_plain c.plain_where_fits.ensures.lines c.plain_where_fits.ensures.history (texts c.args.words.now) (g.W.World.log c.args.world.now) (g.W.World.log c.say_last.new.world) c.say_last.result
    (returns-in-Err-Usage-clause-history g c told) fits

pub returns-in-Ok-read_lines-clause-any_moment : goal.returns-in-Ok-read_lines-clause-any_moment
returns-in-Ok-read_lines-clause-any_moment g c told fits =
    passes_plain c.plain_where_fits.ensures.lines c.plain_where_fits.ensures.history (texts c.args.words.now) (g.W.World.log c.args.world.now) (g.W.World.log c.run_command.new.world) c.run_command.result
    (returns-in-Ok-read_lines-clause-history g c told) fits

pub returns-in-Err-TooLong-clause-any_moment : goal.returns-in-Err-TooLong-clause-any_moment
returns-in-Err-TooLong-clause-any_moment g c told fits =
    passes_plain c.plain_where_fits.ensures.lines c.plain_where_fits.ensures.history (texts c.args.words.now) (g.W.World.log c.args.world.now) (g.W.World.log c.say_last-in-Err-TooLong.new.world) c.say_last-in-Err-TooLong.result
    (returns-in-Err-TooLong-clause-history g c told) fits

pub returns-in-Err-BadLine-clause-any_moment : goal.returns-in-Err-BadLine-clause-any_moment
returns-in-Err-BadLine-clause-any_moment g c told fits =
    passes_plain c.plain_where_fits.ensures.lines c.plain_where_fits.ensures.history (texts c.args.words.now) (g.W.World.log c.args.world.now) (g.W.World.log c.say_bad_line.new.world) c.say_bad_line.result
    (returns-in-Err-BadLine-clause-history g c told) fits

pub returns-in-Err-Fault-clause-any_moment : goal.returns-in-Err-Fault-clause-any_moment
returns-in-Err-Fault-clause-any_moment g c told fits =
    passes_plain c.plain_where_fits.ensures.lines c.plain_where_fits.ensures.history (texts c.args.words.now) (g.W.World.log c.args.world.now) (g.W.World.log c.read_lines.new.world) status.ScriptFault
    (returns-in-Err-Fault-clause-history g c told) fits

pub returns-in-Err-Memory-read_lines-clause-any_moment : goal.returns-in-Err-Memory-read_lines-clause-any_moment
returns-in-Err-Memory-read_lines-clause-any_moment g c told fits =
    passes_plain c.plain_where_fits.ensures.lines c.plain_where_fits.ensures.history (texts c.args.words.now) (g.W.World.log c.args.world.now) (g.W.World.log c.read_lines.new.world) status.Memory
    (returns-in-Err-Memory-read_lines-clause-history g c told) fits

pub returns-in-Err-Usage-clause-left : goal.returns-in-Err-Usage-clause-left
returns-in-Err-Usage-clause-left g c told fits =
    leaves_plain c.plain_where_fits.ensures.lines c.plain_where_fits.ensures.history (texts c.args.words.now) (g.W.World.log c.args.world.now) (g.W.World.log c.say_last.new.world) c.say_last.result
    (returns-in-Err-Usage-clause-history g c told) fits c.commits_end.ensures.opening c.commits_end.ensures.last

pub returns-in-Ok-read_lines-clause-left : goal.returns-in-Ok-read_lines-clause-left
returns-in-Ok-read_lines-clause-left g c told fits =
    leaves_plain c.plain_where_fits.ensures.lines c.plain_where_fits.ensures.history (texts c.args.words.now) (g.W.World.log c.args.world.now) (g.W.World.log c.run_command.new.world) c.run_command.result
    (returns-in-Ok-read_lines-clause-history g c told) fits c.commits_end.ensures.opening c.commits_end.ensures.last

pub returns-in-Err-TooLong-clause-left : goal.returns-in-Err-TooLong-clause-left
returns-in-Err-TooLong-clause-left g c told fits =
    leaves_plain c.plain_where_fits.ensures.lines c.plain_where_fits.ensures.history (texts c.args.words.now) (g.W.World.log c.args.world.now) (g.W.World.log c.say_last-in-Err-TooLong.new.world) c.say_last-in-Err-TooLong.result
    (returns-in-Err-TooLong-clause-history g c told) fits c.commits_end.ensures.opening c.commits_end.ensures.last

pub returns-in-Err-BadLine-clause-left : goal.returns-in-Err-BadLine-clause-left
returns-in-Err-BadLine-clause-left g c told fits =
    leaves_plain c.plain_where_fits.ensures.lines c.plain_where_fits.ensures.history (texts c.args.words.now) (g.W.World.log c.args.world.now) (g.W.World.log c.say_bad_line.new.world) c.say_bad_line.result
    (returns-in-Err-BadLine-clause-history g c told) fits c.commits_end.ensures.opening c.commits_end.ensures.last

-- ---- no memory to read the words

pub returns-in-Err-Memory-clause-history : goal.returns-in-Err-Memory-clause-history
returns-in-Err-Memory-clause-history g c told lines v z start r reads unspent =
    let log = g.W.World.log c.args.world.now in
    ran_none start.volume start.store start.create log log (Passes-none log _) c.plain_is_history.ensures.history lines v.count z.count r _ (λ whole. whole)

pub returns-in-Err-Memory-clause-any_moment : goal.returns-in-Err-Memory-clause-any_moment
returns-in-Err-Memory-clause-any_moment g c told fits =
    let log = g.W.World.log c.args.world.now in
    passes_plain c.plain_where_fits.ensures.lines c.plain_where_fits.ensures.history (texts c.args.words.now) log log status.Memory
    (returns-in-Err-Memory-clause-history g c told) fits

pub returns-in-Err-Memory-clause-prefix : goal.returns-in-Err-Memory-clause-prefix
returns-in-Err-Memory-clause-prefix g c told fits status text outcome = said_nothing text _ _ refl

pub returns-in-Err-Memory-clause-shut_volume : goal.returns-in-Err-Memory-clause-shut_volume
returns-in-Err-Memory-clause-shut_volume g c told lines v z start shut =
    let log = g.W.World.log c.args.world.now in
    none_shut start.volume start.store start.create log log (Passes-none log _)

pub returns-in-Err-Memory-clause-shut_store : goal.returns-in-Err-Memory-clause-shut_store
returns-in-Err-Memory-clause-shut_store g c told lines v z start r reads shut =
    let log = g.W.World.log c.args.world.now in
    none_beside start.volume start.store start.create log log (Passes-none log _) r

pub returns-in-Err-Memory-clause-elsewhere : goal.returns-in-Err-Memory-clause-elsewhere
returns-in-Err-Memory-clause-elsewhere g c told =
    let log = g.W.World.log c.args.world.now in
    stand_elsewhere (texts c.args.words.now) log log (Passes-none log _)

pub returns-in-Err-Memory-clause-fits : goal.returns-in-Err-Memory-clause-fits
returns-in-Err-Memory-clause-fits g c told =
    let log = g.W.World.log c.args.world.now in
    stand_fit (texts c.args.words.now) log log (Passes-none log _)

pub returns-in-Err-Memory-clause-images : goal.returns-in-Err-Memory-clause-images
returns-in-Err-Memory-clause-images g c told none = Passes-none (g.W.World.log c.args.world.now) _
