use Rattle.std.proofs.Common.{◌≡◌, ◌+◌, length, cond, Some, Result, refl, sym, subst}
use Rattle.std.specs.Result.{IfOk}
use Rattle.tm_base.specs.declared.refused.LineFault.{LineFault}
use Rattle.tm_image.specs.Room.{free_of}
use Rattle.tm_world.specs.declared.bytes.Blob.{Blob}
use Rattle.tm_index.specs.Folders.{numbers_in}
use Rattle.tm_world.specs.Outside.{disk}
use Rattle.tm_world.specs.Log.{now}
use Rattle.tm_world.specs.Runs.{Runs}
use Rattle.tm_world.specs.declared.world.Side.TheVariants.{Volume as OfVolume}
use Rattle.tm_volume.specs.Reads.{LeavesSide}
use Rattle.tm_volume.specs.Seen.{Seen, StandsOn, stored_on}
use Rattle.tm_volume.proofs.Editing.{shelf_back}
use Rattle.tm_volume.proofs.Staging.{stage_run, stage_stands}
use Rattle.tm_volume.proofs.volume.Volume.stage.Goals as goal
use Rattle.tm_volume.proofs.volume.Volume.stage.Goals.{in-Ok, in-Err-Fault, in-Err-Full, in-Err-Memory}

pub invariant_of-self : goal.invariant_of-self
invariant_of-self g c =
    let m : Seen = record { image = c.self.inside.image; head = c.self.inside.head; fixed = c.self.inside.fixed; tag = record { clean = cond c.self.inside.clean 1 0; generation = c.self.inside.generation; next = c.self.inside.next }; looks = c.self.inside.looks } in
    shelf_back m (numbers_in c.self.inside.numbers) c.self.invariant c.stage.new.self (numbers_in c.self.inside.numbers) c.stage.ensures.same refl

pub returns-clause-any_moment : goal.returns-clause-any_moment
returns-clause-any_moment g c told =
    let m : Seen = record { image = c.self.inside.image; head = c.self.inside.head; fixed = c.self.inside.fixed; tag = record { clean = cond c.self.inside.clean 1 0; generation = c.self.inside.generation; next = c.self.inside.next }; looks = c.self.inside.looks } in
    let l0 = g.W.World.log c.args.world.now in
    let l1 = g.W.World.log c.stage.new.world in
    let stands = subst (λ (s : Seen). StandsOn s (disk OfVolume (now l0))) (sym c.self.view_is) (c.requires.stands told) in
    subst (λ (s : Seen). Runs OfVolume (LeavesSide (Some (stored_on s (disk OfVolume (now l0)).bytes))) l0 l1) c.self.view_is
    (stage_run m (numbers_in c.self.inside.numbers) c.self.invariant l0 l1 stands (c.stage.ensures.any_moment told))

pub returns-clause-stands : goal.returns-clause-stands
returns-clause-stands g c told =
    let m : Seen = record { image = c.self.inside.image; head = c.self.inside.head; fixed = c.self.inside.fixed; tag = record { clean = cond c.self.inside.clean 1 0; generation = c.self.inside.generation; next = c.self.inside.next }; looks = c.self.inside.looks } in
    let l0 = g.W.World.log c.args.world.now in
    let l1 = g.W.World.log c.stage.new.world in
    let stands = subst (λ (s : Seen). StandsOn s (disk OfVolume (now l0))) (sym c.self.view_is) (c.requires.stands told) in
    stage_stands m (numbers_in c.self.inside.numbers) c.self.invariant c.stage.new.self l0 l1 c.stage.ensures.same stands (c.stage.ensures.stands told) (c.stage.ensures.data told)

pub returns-clause-free : goal.returns-clause-free
returns-clause-free g c =
    let Fits : Result Blob LineFault → Type 0 = λ r. IfOk r (λ blob. free_of c.stage.new.self + length blob.blocks ≡ free_of c.args.self.now.image) in
    elim c.match-stage.branch [
      | in-Ok w ↦ subst Fits (sym w.result-is) (subst (λ (s : Seen). free_of c.stage.new.self + length w.in-Ok.blob.blocks ≡ free_of s.image) c.self.view_is w.in-Ok.ensures.free)
      | in-Err-Fault w ↦ subst Fits (sym w.result-is) tt
      | in-Err-Full w ↦ subst Fits (sym w.result-is) tt
      | in-Err-Memory w ↦ subst Fits (sym w.result-is) tt
    ]
