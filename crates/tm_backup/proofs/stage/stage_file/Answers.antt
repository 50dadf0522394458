use Rattle.std.proofs.Common.{refl}
use Rattle.tm_backup.specs.Steps.{Went}
use Rattle.tm_backup.proofs.Stepping.{ran_read, went_read, ran_then, went_then, unless_map, staged_went}
use Rattle.tm_backup.proofs.stage.stage_file.Goals as goal

pub returns-in_err-bytes-clause-ran : goal.returns-in_err-bytes-clause-ran
returns-in_err-bytes-clause-ran g c =
    ran_read g.W.World.told c.args.volume.now c.args.store.now (g.W.World.log c.args.world.now) (g.W.World.log c.read_file.new.world) _ _ c.requires.may c.in_err-bytes.ensures.steps c.held_reads.ensures

pub returns-clause-ran : goal.returns-clause-ran
returns-clause-ran g c =
    let v = c.args.volume.now in
    let s = c.args.store.now in
    let t = c.stage_file.new.self in
    let l = g.W.World.log c.args.world.now in
    let m = g.W.World.log c.read_file.new.world in
    let n = g.W.World.log c.stage_file.new.world in
    let told = g.W.World.told in
    let steps = c.in_ok-bytes.ensures.steps in
    let first = ran_read told v s l m _ _ c.requires.may steps c.held_reads.ensures in
    let went = went_read told v s l m _ _ c.requires.may steps in
    ran_then told v v s s l m _ _ c.requires.may first went v t n (record { runs = c.stage_file.ensures.any_moment; volume = refl; size = c.stage_file.ensures.size })

pub returns-clause-went : goal.returns-clause-went
returns-clause-went g c =
    let v = c.args.volume.now in
    let s = c.args.store.now in
    let t = c.stage_file.new.self in
    let l = g.W.World.log c.args.world.now in
    let m = g.W.World.log c.read_file.new.world in
    let n = g.W.World.log c.stage_file.new.world in
    let told = g.W.World.told in
    let steps = c.in_ok-bytes.ensures.steps in
    let first = ran_read told v s l m _ _ c.requires.may steps c.held_reads.ensures in
    let went = went_read told v s l m _ _ c.requires.may steps in
    let e = c.stage_file.ensures in
    unless_map c.stage_file.result (Went told s t m n) (Went told s t l n) (went_then told v v s s l m _ _ c.requires.may first went t n)
    (staged_went told s t m n c.stage_file.result _ e.stands e.state e.others e.whole e.same e.err e.staged)
