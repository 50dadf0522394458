use Rattle.std.proofs.Common.{◌≡◌, ◌<◌, ◌∙◌, ℕ, List, ap, sym, subst}
use Rattle.std.specs.List.{All}
use Rattle.std.specs.Map.{values_of}
use Rattle.tm_world.specs.Outside.{disk}
use Rattle.tm_world.specs.Log.{now}
use Rattle.tm_world.specs.Runs.{Runs}
use Rattle.tm_world.specs.declared.world.Side.{Side}
use Rattle.tm_world.proofs.Going.{Runs-none}
use Rattle.tm_records.specs.Records.{Records}
use Rattle.tm_image.specs.Content.{IsAtRest, LeavesEither, in_data}
use Rattle.tm_image.specs.Seen.{IsKept, content_of}
use Rattle.tm_gate.specs.declared.root.Root.{Root}
use Rattle.tm_image.specs.Reads.{Entries, entries_of, LeavesRead}
use Rattle.tm_image.specs.Commit.{changed, next_content}
use Rattle.tm_image.proofs.Standing.{entries_same, stands_reads}
use Rattle.tm_image.proofs.Staging.{commit_run}
use Rattle.tm_image.proofs.image.Image.try_commit.Goals as goal

pub returns-in_err-prepared-clause-any_moment : goal.returns-in_err-prepared-clause-any_moment
returns-in_err-prepared-clause-any_moment g c told = Runs-none c.args.self.now.side _ (g.W.World.log c.args.world.now)

pub returns-clause-any_moment : goal.returns-clause-any_moment
returns-clause-any_moment g c told =
    let same = c.in_ok-prepared.ensures.same in
    let old = c.args.self.now in
    let mid = c.prepare.new.self in
    let l0 = g.W.World.log c.args.world.now in
    let rest = subst (λ (s : Side). IsAtRest (content_of old) mid.named (disk s (now l0))) (sym same.0) (subst (λ (n : ℕ). IsAtRest (content_of old) n (disk old.side (now l0))) (sym same.3) (c.requires.stands told)) in
    let covered = c.in_ok-prepared.ensures.covered in
    let p = c.in_ok-prepared.prepared in
    let next = next_content p.blocks.items p.text.items c.args.tag mid in
    commit_run old mid c.in_ok-prepared.ensures.sound c.requires.settled c.requires.space c.finish.ensures.sound same.0 p.text.items p.blocks.items p.log.items c.args.tag c.in_ok-prepared.ensures.ready c.requires.tag _ c.in_ok-prepared.ensures.records (disk old.side (now l0)).bytes l0 (g.W.World.log c.finish.new.world)
    (subst (λ (s : Side). Runs mid.side (LeavesEither (content_of old) next (disk s (now l0)).bytes) l0 (g.W.World.log c.finish.new.world)) same.0 (c.finish.ensures.any_moment told (content_of old) rest covered))

pub returns-in_err-finish-clause-any_moment : goal.returns-in_err-finish-clause-any_moment
returns-in_err-finish-clause-any_moment g c told =
    let same = c.in_ok-prepared.ensures.same in
    let old = c.args.self.now in
    let mid = c.prepare.new.self in
    let l0 = g.W.World.log c.args.world.now in
    let rest = subst (λ (s : Side). IsAtRest (content_of old) mid.named (disk s (now l0))) (sym same.0) (subst (λ (n : ℕ). IsAtRest (content_of old) n (disk old.side (now l0))) (sym same.3) (c.requires.stands told)) in
    let covered = c.in_ok-prepared.ensures.covered in
    let p = c.in_ok-prepared.prepared in
    let next = next_content p.blocks.items p.text.items c.args.tag mid in
    commit_run old mid c.in_ok-prepared.ensures.sound c.requires.settled c.requires.space c.finish.ensures.sound same.0 p.text.items p.blocks.items p.log.items c.args.tag c.in_ok-prepared.ensures.ready c.requires.tag _ c.in_ok-prepared.ensures.records (disk old.side (now l0)).bytes l0 (g.W.World.log c.finish.new.world)
    (subst (λ (s : Side). Runs mid.side (LeavesEither (content_of old) next (disk s (now l0)).bytes) l0 (g.W.World.log c.finish.new.world)) same.0 (c.finish.ensures.any_moment told (content_of old) rest covered))

pub returns-clause-stands : goal.returns-clause-stands
returns-clause-stands g c told =
    let same = c.in_ok-prepared.ensures.same in
    let old = c.args.self.now in
    let mid = c.prepare.new.self in
    let l0 = g.W.World.log c.args.world.now in
    let rest = subst (λ (s : Side). IsAtRest (content_of old) mid.named (disk s (now l0))) (sym same.0) (subst (λ (n : ℕ). IsAtRest (content_of old) n (disk old.side (now l0))) (sym same.3) (c.requires.stands told)) in
    let covered = c.in_ok-prepared.ensures.covered in
    subst (λ (s : Side). IsAtRest (content_of c.finish.new.self) c.finish.new.self.named (disk s (now (g.W.World.log c.finish.new.world)))) same.0 (c.in_ok-finish.ensures.at_rest told (content_of old) rest covered)

pub returns-clause-data : goal.returns-clause-data
returns-clause-data g c told =
    let same = c.in_ok-prepared.ensures.same in
    let old = c.args.self.now in
    let mid = c.prepare.new.self in
    let l0 = g.W.World.log c.args.world.now in
    let rest = subst (λ (s : Side). IsAtRest (content_of old) mid.named (disk s (now l0))) (sym same.0) (subst (λ (n : ℕ). IsAtRest (content_of old) n (disk old.side (now l0))) (sym same.3) (c.requires.stands told)) in
    let covered = c.in_ok-prepared.ensures.covered in
    let l1 = g.W.World.log c.finish.new.world in
    let moved = subst (λ (s : Side). (b : ℕ) → 0 < in_data b mid.records → (disk s (now l1)).bytes b ≡ (disk s (now l0)).bytes b) same.0 (c.in_ok-finish.ensures.data told (content_of old) rest covered) in
    entries_same c.finish.new.self.records (disk old.side (now l1)).bytes (disk old.side (now l0)).bytes (subst (λ (rs : Records). All IsKept (values_of rs)) (sym c.in_ok-finish.ensures.ok.records) c.finish.ensures.sound.each)
    (subst (λ (rs : Records). (b : ℕ) → 0 < in_data b rs → (disk old.side (now l1)).bytes b ≡ (disk old.side (now l0)).bytes b) (sym c.in_ok-finish.ensures.ok.records) moved)

pub returns-clause-leaves : goal.returns-clause-leaves
returns-clause-leaves g c told =
    let same = c.in_ok-prepared.ensures.same in
    let old = c.args.self.now in
    let new = c.finish.new.self in
    let ok = c.in_ok-finish.ensures.ok in
    let d0 = disk old.side (now (g.W.World.log c.args.world.now)) in
    let d1 = disk old.side (now (g.W.World.log c.finish.new.world)) in
    let side : new.side ≡ old.side = ok.side ∙ same.0 in
    let records = ok.records ∙ c.in_ok-prepared.ensures.records in
    let stands = returns-clause-stands g c told in
    let leaves = stands_reads new d1 c.finish.ensures.sound_after c.in_ok-finish.ensures.settled c.in_ok-finish.ensures.space stands in
    subst (λ (s : Side). LeavesRead s (entries_of d0.bytes (changed c.args.changes.remove.items c.args.changes.put.items old.records)) c.args.tag d1) side
    (subst (λ (t : List ℕ). LeavesRead new.side (entries_of d0.bytes (changed c.args.changes.remove.items c.args.changes.put.items old.records)) t d1) (ap (λ (r : Root). r.tag) ok.root)
    (subst (λ (es : Entries). LeavesRead new.side es new.root.tag d1) (returns-clause-data g c told ∙ ap (entries_of d0.bytes) records) leaves))
