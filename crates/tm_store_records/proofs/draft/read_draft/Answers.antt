use Rattle.std.proofs.Common.{◌≡◌, ◌<◌, ◌++◌, ℕ, Option, find, not, IfSome, sym, ap, ◌∙◌, subst, List}
use Rattle.std.specs.Prelude.{nat_lt}
use Rattle.std.specs.Map.{keys_of}
use Rattle.std.specs.Option.{option_to_list}
use Rattle.tm_store_records.specs.Heads.{RecordHead, heads_of}
use Rattle.tm_store_records.specs.Found.{snapshots_in, nodes_in, snapshot_in, node_in}
use Rattle.tm_store_records.specs.Rules.{is_record}
use Rattle.tm_store_records.specs.Drafts.{noted}
use Rattle.tm_store_records.proofs.NextKeyLemmas.{rest_of, next_of, start, found_there, Sorted}
use Rattle.tm_store_records.proofs.Reading.{IsUnreadBefore, to_go, goes, heads_sorted, keys_are, head_there, unread_first, unread_next, put_before, key_small}
use Rattle.tm_store_records.proofs.draft.read_draft.Goals as goal

pub loop-next-init : goal.loop-next-init
loop-next-init c =
    let records = c.args.image.now.records in
    let heads = heads_of records in
    let sorted : Sorted heads = heads_sorted records c.total.ensures.sound.rising in
    let first : c.key_from-next.result ≡ find (λ k. not (nat_lt k 0)) (keys_of heads) = c.key_from-next.ensures ∙ ap (λ (ks : List ℕ). find (λ k. not (nat_lt k 0)) ks) (sym (keys_are records)) in
    let all : rest_of c.key_from-next.result heads ≡ heads = ap (λ (o : Option ℕ). rest_of o heads) first ∙ start heads sorted in
    record {
      machine = c.in_ok-machine_of_image.ensures;
      snapshots = (λ i. c.new.ensures.items i ++ snapshots_in (all i));
      nodes = (λ i. c.new-2.ensures.items i ++ nodes_in (all i));
      there = λ k is. found_there (λ k. not (nat_lt k 0)) k records c.total.ensures.sound.rising (sym c.key_from-next.ensures ∙ is);
      unread = unread_first heads c.key_from-next.result sorted first;
    }

pub loop-next-smaller : goal.loop-next-smaller
loop-next-smaller c =
    let records = c.args.image.now.records in
    let heads = heads_of records in
    let key = c.in-Some.key in
    let after : c.key_after-next.result ≡ next_of key heads = c.key_after-next.ensures ∙ ap (λ (ks : List ℕ). find (λ k. nat_lt key k) ks) (sym (keys_are records)) in
    let small = key_small key records c.total.ensures.sound.keys (c.loop-next.invariant.there key c.in-Some.is) in
    subst (λ (o : Option ℕ). to_go o < to_go c.loop-next.next) (sym after) (subst (λ (o : Option ℕ). to_go (next_of key heads) < to_go o) (sym c.in-Some.is) (goes key heads small))

pub loop-next-preserved : goal.loop-next-preserved
loop-next-preserved c =
    let records = c.args.image.now.records in
    let heads = heads_of records in
    let sorted : Sorted heads = heads_sorted records c.total.ensures.sound.rising in
    let key = c.in-Some.key in
    let new = c.read_at.new.self in
    let inv = c.loop-next.invariant in
    let head = head_there records key (inv.there key c.in-Some.is) in
    let after : c.key_after-next.result ≡ next_of key heads = c.key_after-next.ensures ∙ ap (λ (ks : List ℕ). find (λ k. nat_lt key k) ks) (sym (keys_are records)) in
    let snapshots : new.snapshots.items ≡ c.loop-next.draft.snapshots.items ++ option_to_list (snapshot_in (key, head.0))
    = subst (λ (o : Option RecordHead). IfSome o (λ head. new.snapshots.items ≡ c.loop-next.draft.snapshots.items ++ option_to_list (snapshot_in (key, head)))) head.1 c.in_ok-read_at.ensures.snapshots in
    let nodes : new.nodes.items ≡ c.loop-next.draft.nodes.items ++ option_to_list (node_in (key, head.0))
    = subst (λ (o : Option RecordHead). IfSome o (λ head. new.nodes.items ≡ c.loop-next.draft.nodes.items ++ option_to_list (node_in (key, head)))) head.1 c.in_ok-read_at.ensures.nodes in
    let unread : new.unread ≡ noted c.loop-next.draft.unread key (is_record key head.0)
    = subst (λ (o : Option RecordHead). IfSome o (λ head. new.unread ≡ noted c.loop-next.draft.unread key (is_record key head))) head.1 c.in_ok-read_at.ensures.unread in
    record {
      machine = c.in_ok-read_at.ensures.machine ∙ inv.machine;
      snapshots = (λ i. snapshots i ++ snapshots_in (rest_of (after i) heads))
          ∙ put_before heads sorted key head.0 head.1 snapshot_in c.loop-next.draft.snapshots.items (snapshots_in heads) (subst (λ (o : Option ℕ). c.loop-next.draft.snapshots.items ++ snapshots_in (rest_of o heads) ≡ snapshots_in heads) c.in-Some.is inv.snapshots);
      nodes = (λ i. nodes i ++ nodes_in (rest_of (after i) heads))
          ∙ put_before heads sorted key head.0 head.1 node_in c.loop-next.draft.nodes.items (nodes_in heads) (subst (λ (o : Option ℕ). c.loop-next.draft.nodes.items ++ nodes_in (rest_of o heads) ≡ nodes_in heads) c.in-Some.is inv.nodes);
      there = λ k is. found_there (λ k. nat_lt key k) k records c.total.ensures.sound.rising (sym c.key_after-next.ensures ∙ is);
      unread = subst (λ (u : Option ℕ). IsUnreadBefore heads c.key_after-next.result u) (sym unread) (subst (λ (o : Option ℕ). IsUnreadBefore heads o (noted c.loop-next.draft.unread key (is_record key head.0))) (sym after)
          (unread_next heads sorted key head.0 head.1 c.loop-next.draft.unread (subst (λ (o : Option ℕ). IsUnreadBefore heads o c.loop-next.draft.unread) c.in-Some.is inv.unread)));
    }
