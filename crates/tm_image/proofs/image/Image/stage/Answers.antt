use Rattle.std.proofs.Common.{◌≡◌, ◌+◌, ◌*◌, ◌<◌, ◌≤◌, ◌∙◌, ℕ, List, length, get_or, take, drop, ap, sym, subst, arith}
use Rattle.std.proofs.lemmas.List.{take_all}
use Rattle.tm_world.specs.Outside.{disk}
use Rattle.tm_world.specs.Log.{now}
use Rattle.tm_world.proofs.Going.{Runs-none}
use Rattle.tm_blockmap.specs.Marks.{AreMarks}
use Rattle.tm_blockmap.specs.Counts.{times, IsDistinct}
use Rattle.tm_blockmap.proofs.Counting.{stands_not}
use Rattle.tm_chain.specs.Blob.{FillsOn, bytes_in}
use Rattle.tm_chain.proofs.Held.{filled_is_held}
use Rattle.tm_image.specs.Seen.{Seen, Stands, IsSettled}
use Rattle.tm_image.specs.Content.{IsAtRest}
use Rattle.tm_image.specs.Room.{HasRoom}
use Rattle.tm_image.proofs.Finishing.{taken_once, taken_within}
use Rattle.tm_image.proofs.Staging.{ReadsOn, SameData, staging_run, staging_rest, staging_data}
use Rattle.tm_image.proofs.image.Image.stage.Goals as goal

pub returns-then-need-free-clause-any_moment : goal.returns-then-need-free-clause-any_moment
returns-then-need-free-clause-any_moment g c told = Runs-none c.args.self.now.side _ (g.W.World.log c.args.world.now)

pub returns-in_err-blocks-clause-any_moment : goal.returns-in_err-blocks-clause-any_moment
returns-in_err-blocks-clause-any_moment g c told = Runs-none c.args.self.now.side _ (g.W.World.log c.args.world.now)

pub write_blob-requires-clause-within : goal.write_blob-requires-clause-within
write_blob-requires-clause-within g c =
    subst (λ bs. (k : ℕ) → k < length bs → get_or bs k 0 < g.W.World.blocks c.args.world.now c.self.inside.side) (sym c.deref.ensures.value)
    (taken_within _ c.self.invariant c.in_ok-blocks.blocks.items c.take_all.new.self c.in_ok-blocks.ensures.marks c.in_ok-blocks.ensures.are_marks _ (c.in_ok-blocks.ensures.size ∙ ap (λ (s : Seen). length s.used) c.self.view_is ∙ c.requires.count ∙ ap (λ (s : Seen). g.W.World.blocks c.args.world.now s.side) (sym c.self.view_is)))

pub write_blob-requires-clause-distinct : goal.write_blob-requires-clause-distinct
write_blob-requires-clause-distinct g c = subst IsDistinct (sym c.deref.ensures.value) (taken_once _ c.self.invariant c.in_ok-blocks.blocks.items c.take_all.new.self c.in_ok-blocks.ensures.marks c.in_ok-blocks.ensures.are_marks)

pub returns-in_err-write_blob-clause-any_moment : goal.returns-in_err-write_blob-clause-any_moment
returns-in_err-write_blob-clause-any_moment g c told =
    let rest = subst (λ (s : Seen). Stands s (disk s.side (now (g.W.World.log c.args.world.now)))) (sym c.self.view_is) (c.requires.stands told) in
    let settled = subst IsSettled (sym c.self.view_is) c.requires.settled in
    let room = subst HasRoom (sym c.self.view_is) c.requires.space in
    subst (ReadsOn (g.W.World.log c.args.world.now) (g.W.World.log c.write_blob.new.world)) c.self.view_is (staging_run _ c.self.invariant c.in_ok-blocks.blocks.items c.take_all.new.self c.in_ok-blocks.ensures.marks c.in_ok-blocks.ensures.are_marks (g.W.World.log c.args.world.now) (g.W.World.log c.write_blob.new.world) _ c.deref.ensures.value rest settled room (c.write_blob.ensures.any_moment told))

pub returns-in_err-write_blob-clause-stands : goal.returns-in_err-write_blob-clause-stands
returns-in_err-write_blob-clause-stands g c told =
    let rest = subst (λ (s : Seen). Stands s (disk s.side (now (g.W.World.log c.args.world.now)))) (sym c.self.view_is) (c.requires.stands told) in
    subst (λ (s : Seen). IsAtRest (record { blocks = length c.take_all.new.self; records = c.self.inside.records.entries; layout = c.self.inside.table.items; root = c.self.inside.gate.root }) c.self.inside.gate.named (disk s.side (now (g.W.World.log c.write_blob.new.world)))) c.self.view_is (staging_rest _ c.self.invariant c.in_ok-blocks.blocks.items c.take_all.new.self c.in_ok-blocks.ensures.marks c.in_ok-blocks.ensures.are_marks (g.W.World.log c.args.world.now) (g.W.World.log c.write_blob.new.world) _ c.deref.ensures.value rest _ c.in_ok-blocks.ensures.size (c.write_blob.ensures.differs told))

pub returns-in_err-write_blob-clause-data : goal.returns-in_err-write_blob-clause-data
returns-in_err-write_blob-clause-data g c told =
    let rest = subst (λ (s : Seen). Stands s (disk s.side (now (g.W.World.log c.args.world.now)))) (sym c.self.view_is) (c.requires.stands told) in
    subst (SameData (g.W.World.log c.args.world.now) (g.W.World.log c.write_blob.new.world)) c.self.view_is (staging_data _ c.self.invariant c.in_ok-blocks.blocks.items c.take_all.new.self c.in_ok-blocks.ensures.marks c.in_ok-blocks.ensures.are_marks (g.W.World.log c.args.world.now) (g.W.World.log c.write_blob.new.world) _ c.deref.ensures.value rest (c.write_blob.ensures.differs told))

pub returns-clause-any_moment : goal.returns-clause-any_moment
returns-clause-any_moment g c told =
    let rest = subst (λ (s : Seen). Stands s (disk s.side (now (g.W.World.log c.args.world.now)))) (sym c.self.view_is) (c.requires.stands told) in
    let settled = subst IsSettled (sym c.self.view_is) c.requires.settled in
    let room = subst HasRoom (sym c.self.view_is) c.requires.space in
    subst (ReadsOn (g.W.World.log c.args.world.now) (g.W.World.log c.write_blob.new.world)) c.self.view_is (staging_run _ c.self.invariant c.in_ok-blocks.blocks.items c.take_all.new.self c.in_ok-blocks.ensures.marks c.in_ok-blocks.ensures.are_marks (g.W.World.log c.args.world.now) (g.W.World.log c.write_blob.new.world) _ c.deref.ensures.value rest settled room (c.write_blob.ensures.any_moment told))

pub returns-clause-stands : goal.returns-clause-stands
returns-clause-stands g c told =
    let rest = subst (λ (s : Seen). Stands s (disk s.side (now (g.W.World.log c.args.world.now)))) (sym c.self.view_is) (c.requires.stands told) in
    subst (λ (s : Seen). IsAtRest (record { blocks = length c.take_all.new.self; records = c.self.inside.records.entries; layout = c.self.inside.table.items; root = c.self.inside.gate.root }) c.self.inside.gate.named (disk s.side (now (g.W.World.log c.write_blob.new.world)))) c.self.view_is (staging_rest _ c.self.invariant c.in_ok-blocks.blocks.items c.take_all.new.self c.in_ok-blocks.ensures.marks c.in_ok-blocks.ensures.are_marks (g.W.World.log c.args.world.now) (g.W.World.log c.write_blob.new.world) _ c.deref.ensures.value rest _ c.in_ok-blocks.ensures.size (c.write_blob.ensures.differs told))

pub returns-clause-data : goal.returns-clause-data
returns-clause-data g c told =
    let rest = subst (λ (s : Seen). Stands s (disk s.side (now (g.W.World.log c.args.world.now)))) (sym c.self.view_is) (c.requires.stands told) in
    subst (SameData (g.W.World.log c.args.world.now) (g.W.World.log c.write_blob.new.world)) c.self.view_is (staging_data _ c.self.invariant c.in_ok-blocks.blocks.items c.take_all.new.self c.in_ok-blocks.ensures.marks c.in_ok-blocks.ensures.are_marks (g.W.World.log c.args.world.now) (g.W.World.log c.write_blob.new.world) _ c.deref.ensures.value rest (c.write_blob.ensures.differs told))

-- blocks that were used are none of those just taken
off_used : (s : Seen) (map new blocks table : List ℕ) → map ≡ s.used → ((b : ℕ) → get_or new b 0 ≡ get_or map b 0 + times b blocks) → AreMarks new → table ≡ blocks → (b : ℕ) → 0 < get_or s.used b 0 → times b table ≡ 0
off_used s map new blocks table is taken marks same b used = omega (arith, used, taken b, marks b, ap (times b) same, ap (λ (ms : List ℕ). get_or ms b 0) is)

pub returns-in_err-write_blob-clause-others : goal.returns-in_err-write_blob-clause-others
returns-in_err-write_blob-clause-others g c told = λ b used.
    let same : (disk c.self.inside.side (now (g.W.World.log c.write_blob.new.world))).bytes b ≡ (disk c.self.inside.side (now (g.W.World.log c.args.world.now))).bytes b
    = (c.write_blob.ensures.differs told).bytes b (stands_not _ b (off_used c.args.self.now c.self.inside.map c.take_all.new.self c.in_ok-blocks.blocks.items _ (ap (λ (s : Seen). s.used) c.self.view_is) c.in_ok-blocks.ensures.marks c.in_ok-blocks.ensures.are_marks c.deref.ensures.value b used)) in
    subst (λ (s : Seen). (disk s.side (now (g.W.World.log c.write_blob.new.world))).bytes b ≡ (disk s.side (now (g.W.World.log c.args.world.now))).bytes b) c.self.view_is same

pub returns-clause-others : goal.returns-clause-others
returns-clause-others g c told = λ b used.
    let same : (disk c.self.inside.side (now (g.W.World.log c.write_blob.new.world))).bytes b ≡ (disk c.self.inside.side (now (g.W.World.log c.args.world.now))).bytes b
    = (c.write_blob.ensures.differs told).bytes b (stands_not _ b (off_used c.args.self.now c.self.inside.map c.take_all.new.self c.in_ok-blocks.blocks.items _ (ap (λ (s : Seen). s.used) c.self.view_is) c.in_ok-blocks.ensures.marks c.in_ok-blocks.ensures.are_marks c.deref.ensures.value b used)) in
    subst (λ (s : Seen). (disk s.side (now (g.W.World.log c.write_blob.new.world))).bytes b ≡ (disk s.side (now (g.W.World.log c.args.world.now))).bytes b) c.self.view_is same

pub returns-clause-holds : goal.returns-clause-holds
returns-clause-holds g c told =
    let n = length c.args.bytes.now in
    let bytes = (disk c.self.inside.side (now (g.W.World.log c.write_blob.new.world))).bytes in
    let on : FillsOn c.deref.result.now c.args.bytes.now bytes = c.in_ok-write_blob.ensures.fills told in
    let fit : n ≤ 4096 * length c.deref.result.now = omega (arith, c.in_ok-blocks.ensures.many, c.len.ensures, ap length c.deref.ensures.value) in
    let held : bytes_in c.deref.result.now bytes 0 n ≡ take n (drop 0 c.args.bytes.now) = filled_is_held c.deref.result.now c.args.bytes.now bytes 0 n on fit (omega arith) in
    let of : c.of.result ≡ c.deref.result.now = c.of.ensures ∙ sym c.deref.ensures.value in
    subst (λ (s : Seen). bytes_in c.of.result (disk s.side (now (g.W.World.log c.write_blob.new.world))).bytes 0 n ≡ c.args.bytes.now) c.self.view_is
    (ap (λ bs. bytes_in bs bytes 0 n) of ∙ held ∙ take_all n c.args.bytes.now (omega arith))
