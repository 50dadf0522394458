use Rattle.std.proofs.Common.{◌≡◌, Option, IfSome, sym, ◌∙◌, subst, ◌++◌}
use Rattle.std.specs.Option.{option_to_list}
use Rattle.tm_store_records.specs.Heads.{RecordHead, heads_of}
use Rattle.tm_store_records.specs.Found.{snapshot_in, node_in}
use Rattle.tm_store_records.specs.Rules.{is_record}
use Rattle.tm_store_records.specs.Drafts.{noted}
use Rattle.tm_store_records.proofs.Reading.{head_is, machine_here}
use Rattle.tm_store_records.proofs.draft.Draft.read_at.Goals as goal

pub take_record-requires : goal.take_record-requires
take_record-requires c = λ one.
    let is = head_is c.args.image.now.records c.args.key c.in-Some.size c.in-Some-meta.meta.now c.in-Some-meta.ensures.some c.in-Some.ensures in
    c.requires.machine ∙ machine_here (heads_of c.args.image.now.records) c.args.key _ one is

pub returns-clause-snapshots : goal.returns-clause-snapshots
returns-clause-snapshots c =
    let is = head_is c.args.image.now.records c.args.key c.in-Some.size c.in-Some-meta.meta.now c.in-Some-meta.ensures.some c.in-Some.ensures in
    subst (λ (o : Option RecordHead). IfSome o (λ head. c.note.new.self.snapshots.items ≡ c.args.self.now.snapshots.items ++ option_to_list (snapshot_in (c.args.key, head)))) (sym is) (c.note.ensures.snapshots ∙ c.in_ok-good.ensures.snapshots)

pub returns-clause-nodes : goal.returns-clause-nodes
returns-clause-nodes c =
    let is = head_is c.args.image.now.records c.args.key c.in-Some.size c.in-Some-meta.meta.now c.in-Some-meta.ensures.some c.in-Some.ensures in
    subst (λ (o : Option RecordHead). IfSome o (λ head. c.note.new.self.nodes.items ≡ c.args.self.now.nodes.items ++ option_to_list (node_in (c.args.key, head)))) (sym is) (c.note.ensures.nodes ∙ c.in_ok-good.ensures.nodes)

pub returns-clause-unread : goal.returns-clause-unread
returns-clause-unread c =
    let is = head_is c.args.image.now.records c.args.key c.in-Some.size c.in-Some-meta.meta.now c.in-Some-meta.ensures.some c.in-Some.ensures in
    subst (λ (o : Option RecordHead). IfSome o (λ head. c.note.new.self.unread ≡ noted c.args.self.now.unread c.args.key (is_record c.args.key head))) (sym is)
    (c.note.ensures.unread ∙ (λ i. noted (c.in_ok-good.ensures.unread i) c.args.key (c.in_ok-good.ensures.good i)))
