use Rattle.std.proofs.Common.{◌≡◌, ◌-◌, ℕ, length, sym, subst}
use Rattle.tm_world.specs.Outside.{disk}
use Rattle.tm_world.specs.Log.{now}
use Rattle.tm_world.specs.Runs.{Runs}
use Rattle.tm_gate.specs.Tag.{IsTag}
use Rattle.tm_gate.specs.declared.root.Root.{Root}
use Rattle.tm_image.specs.Content.{IsAtRest}
use Rattle.tm_image.specs.Reads.{LeavesOneOf, entries_of}
use Rattle.tm_image.specs.Seen.{Seen, Stands, IsSettled}
use Rattle.tm_image.specs.Room.{HasRoom}
use Rattle.tm_image.proofs.Retagging.{tagged_run, tagged_rest, tagged_data}
use Rattle.tm_image.proofs.image.Image.retag.Goals as goal

pub returns-in_err-turn-clause-any_moment : goal.returns-in_err-turn-clause-any_moment
returns-in_err-turn-clause-any_moment g c told =
    let m : Seen = record { side = c.self.inside.side; records = c.self.inside.records.entries; used = c.self.inside.map; layout = c.self.inside.table.items; root = c.self.inside.gate.root; named = c.self.inside.gate.named } in
    let l0 = g.W.World.log c.args.world.now in
    let l1 = g.W.World.log c.turn.new.world in
    let is_tag = subst (λ (s : Seen). IsTag s.side c.args.tag) (sym c.self.view_is) c.requires.tag in
    let rest = subst (λ (s : Seen). Stands s (disk s.side (now l0))) (sym c.self.view_is) (c.requires.stands told) in
    subst (λ (s : Seen). Runs s.side (LeavesOneOf s.side (entries_of (disk s.side (now l0)).bytes s.records) s.root.tag (entries_of (disk s.side (now l0)).bytes s.records) c.args.tag) l0 l1) c.self.view_is
    (tagged_run m c.self.invariant c.args.tag is_tag l0 l1 rest (subst IsSettled (sym c.self.view_is) c.requires.settled) (subst HasRoom (sym c.self.view_is) c.requires.space) (c.turn.ensures.any_moment told))

pub returns-clause-any_moment : goal.returns-clause-any_moment
returns-clause-any_moment g c told =
    let m : Seen = record { side = c.self.inside.side; records = c.self.inside.records.entries; used = c.self.inside.map; layout = c.self.inside.table.items; root = c.self.inside.gate.root; named = c.self.inside.gate.named } in
    let l0 = g.W.World.log c.args.world.now in
    let l1 = g.W.World.log c.turn.new.world in
    let is_tag = subst (λ (s : Seen). IsTag s.side c.args.tag) (sym c.self.view_is) c.requires.tag in
    let rest = subst (λ (s : Seen). Stands s (disk s.side (now l0))) (sym c.self.view_is) (c.requires.stands told) in
    subst (λ (s : Seen). Runs s.side (LeavesOneOf s.side (entries_of (disk s.side (now l0)).bytes s.records) s.root.tag (entries_of (disk s.side (now l0)).bytes s.records) c.args.tag) l0 l1) c.self.view_is
    (tagged_run m c.self.invariant c.args.tag is_tag l0 l1 rest (subst IsSettled (sym c.self.view_is) c.requires.settled) (subst HasRoom (sym c.self.view_is) c.requires.space) (c.turn.ensures.any_moment told))

pub returns-clause-stands : goal.returns-clause-stands
returns-clause-stands g c told =
    let m : Seen = record { side = c.self.inside.side; records = c.self.inside.records.entries; used = c.self.inside.map; layout = c.self.inside.table.items; root = c.self.inside.gate.root; named = c.self.inside.gate.named } in
    let l0 = g.W.World.log c.args.world.now in
    let l1 = g.W.World.log c.turn.new.world in
    let is_tag = subst (λ (s : Seen). IsTag s.side c.args.tag) (sym c.self.view_is) c.requires.tag in
    let rest = subst (λ (s : Seen). Stands s (disk s.side (now l0))) (sym c.self.view_is) (c.requires.stands told) in
    subst (λ (s : Seen). IsAtRest (record { blocks = (length m.used); records = m.records; layout = m.layout; root = c.turn.new.gate.root }) c.turn.new.gate.named (disk s.side (now l1))) c.self.view_is
    (subst (λ (n : ℕ). IsAtRest (record { blocks = (length m.used); records = m.records; layout = m.layout; root = c.turn.new.gate.root }) n (disk m.side (now l1))) (sym c.in_ok-turn.ensures.named)
    (subst (λ (r : Root). IsAtRest (record { blocks = (length m.used); records = m.records; layout = m.layout; root = r }) (3 - m.named) (disk m.side (now l1))) (sym c.in_ok-turn.ensures.root)
    (tagged_rest m c.self.invariant c.args.tag is_tag (disk m.side (now l0)) rest (disk m.side (now l1)) (c.in_ok-turn.ensures.turned told))))

pub returns-clause-data : goal.returns-clause-data
returns-clause-data g c told =
    let m : Seen = record { side = c.self.inside.side; records = c.self.inside.records.entries; used = c.self.inside.map; layout = c.self.inside.table.items; root = c.self.inside.gate.root; named = c.self.inside.gate.named } in
    let l0 = g.W.World.log c.args.world.now in
    let l1 = g.W.World.log c.turn.new.world in
    let is_tag = subst (λ (s : Seen). IsTag s.side c.args.tag) (sym c.self.view_is) c.requires.tag in
    let rest = subst (λ (s : Seen). Stands s (disk s.side (now l0))) (sym c.self.view_is) (c.requires.stands told) in
    subst (λ (s : Seen). entries_of (disk s.side (now l1)).bytes s.records ≡ entries_of (disk s.side (now l0)).bytes s.records) c.self.view_is
    (tagged_data m c.self.invariant c.args.tag is_tag (disk m.side (now l0)) rest (disk m.side (now l1)) (c.in_ok-turn.ensures.turned told))
