use Rattle.std.proofs.Common.{◌≡◌, ◌∙◌, ◌++◌, ◌∷◌, [], length, sym, subst, rules, arith}
use Rattle.tm_memworld.specs.Sites.{path_at, IsFirst, IsNowhere, AreSmall, AreBy}
use Rattle.tm_memworld.specs.Devices.{contents_of}
use Rattle.tm_memworld.proofs.Views.{first-set, small-set, by-set, by_later, first-push, small-push, by-push}
use Rattle.tm_memworld.proofs.Putting.{put_set, put_push, room_after_set, room_after_push}
use Rattle.tm_memworld.proofs.devices.Devices.put_site.Goals as goal

pub invariant_of-self-clause-volume_first : goal.invariant_of-self-clause-volume_first
invariant_of-self-clause-volume_first c = λ k at.
    let d = c.args.self.now in
    let first : IsFirst d.sites.items c.in-Some.i = subst (λ xs. IsFirst xs c.in-Some.i) c.deref.ensures.value c.in-Some.ensures.first in
    let same : c.args.site.path ≡ path_at d.sites.items c.in-Some.i = sym (subst (λ xs. path_at xs c.in-Some.i ≡ c.path.result.now) c.deref.ensures.value c.in-Some.ensures.path ∙ c.path.ensures) in
    first-set d.sites.items c.in-Some.i k c.args.site first.within same (d.volume_first k at)

pub invariant_of-self-clause-store_first : goal.invariant_of-self-clause-store_first
invariant_of-self-clause-store_first c = λ k at.
    let d = c.args.self.now in
    let first : IsFirst d.sites.items c.in-Some.i = subst (λ xs. IsFirst xs c.in-Some.i) c.deref.ensures.value c.in-Some.ensures.first in
    let same : c.args.site.path ≡ path_at d.sites.items c.in-Some.i = sym (subst (λ xs. path_at xs c.in-Some.i ≡ c.path.result.now) c.deref.ensures.value c.in-Some.ensures.path ∙ c.path.ensures) in
    first-set d.sites.items c.in-Some.i k c.args.site first.within same (d.store_first k at)

pub invariant_of-self-clause-small : goal.invariant_of-self-clause-small
invariant_of-self-clause-small c =
    let d = c.args.self.now in
    let first : IsFirst d.sites.items c.in-Some.i = subst (λ xs. IsFirst xs c.in-Some.i) c.deref.ensures.value c.in-Some.ensures.first in
    let same : c.args.site.path ≡ path_at d.sites.items c.in-Some.i = sym (subst (λ xs. path_at xs c.in-Some.i ≡ c.path.result.now) c.deref.ensures.value c.in-Some.ensures.path ∙ c.path.ensures) in
    small-set d.sites.items c.in-Some.i c.args.site d.small first same c.requires.small

pub invariant_of-self-clause-by_now : goal.invariant_of-self-clause-by_now
invariant_of-self-clause-by_now c =
    let d = c.args.self.now in
    let first : IsFirst d.sites.items c.in-Some.i = subst (λ xs. IsFirst xs c.in-Some.i) c.deref.ensures.value c.in-Some.ensures.first in
    by-set d.sites.items c.in-Some.i c.args.site (length d.changes.items) (length d.changes.items) first.within d.by_now (omega arith) (by_later 0 (length d.changes.items) c.args.site (omega arith) c.requires.new)

pub invariant_of-self-in-None-clause-volume_first : goal.invariant_of-self-in-None-clause-volume_first
invariant_of-self-in-None-clause-volume_first c = λ k at.
    let d = c.args.self.now in
    let pushed : c.push-pushed.new.self.items ≡ d.sites.items ++ c.args.site ∷ [] = search rules in
    subst (λ xs. IsFirst xs k) (sym pushed) (first-push d.sites.items c.args.site k (d.volume_first k at))

pub invariant_of-self-in-None-clause-store_first : goal.invariant_of-self-in-None-clause-store_first
invariant_of-self-in-None-clause-store_first c = λ k at.
    let d = c.args.self.now in
    let pushed : c.push-pushed.new.self.items ≡ d.sites.items ++ c.args.site ∷ [] = search rules in
    subst (λ xs. IsFirst xs k) (sym pushed) (first-push d.sites.items c.args.site k (d.store_first k at))

pub invariant_of-self-in-None-clause-small : goal.invariant_of-self-in-None-clause-small
invariant_of-self-in-None-clause-small c =
    let d = c.args.self.now in
    let pushed : c.push-pushed.new.self.items ≡ d.sites.items ++ c.args.site ∷ [] = search rules in
    let nowhere : IsNowhere d.sites.items c.args.site.path = subst (IsNowhere d.sites.items) c.path.ensures (subst (λ xs. IsNowhere xs c.path.result.now) c.deref.ensures.value c.in-None.ensures.none) in
    subst AreSmall (sym pushed) (small-push d.sites.items c.args.site d.small nowhere c.requires.small)

pub invariant_of-self-in-None-clause-by_now : goal.invariant_of-self-in-None-clause-by_now
invariant_of-self-in-None-clause-by_now c =
    let d = c.args.self.now in
    let pushed : c.push-pushed.new.self.items ≡ d.sites.items ++ c.args.site ∷ [] = search rules in
    subst (AreBy (length d.changes.items)) (sym pushed) (by-push d.sites.items c.args.site (length d.changes.items) d.by_now (by_later 0 (length d.changes.items) c.args.site (omega arith) c.requires.new))

pub returns-in-Some-clause-ok : goal.returns-in-Some-clause-ok
returns-in-Some-clause-ok c =
    let d = c.args.self.now in
    let first : IsFirst d.sites.items c.in-Some.i = subst (λ xs. IsFirst xs c.in-Some.i) c.deref.ensures.value c.in-Some.ensures.first in
    let same : c.args.site.path ≡ path_at d.sites.items c.in-Some.i = sym (subst (λ xs. path_at xs c.in-Some.i ≡ c.path.result.now) c.deref.ensures.value c.in-Some.ensures.path ∙ c.path.ensures) in
    put_set (contents_of d) d.changes.items d.began c.len-self.result c.args.site c.in-Some.i first same

pub returns-in-Some-clause-places_ok : goal.returns-in-Some-clause-places_ok
returns-in-Some-clause-places_ok c =
    let d = c.args.self.now in
    let first : IsFirst d.sites.items c.in-Some.i = subst (λ xs. IsFirst xs c.in-Some.i) c.deref.ensures.value c.in-Some.ensures.first in
    let same : c.args.site.path ≡ path_at d.sites.items c.in-Some.i = sym (subst (λ xs. path_at xs c.in-Some.i ≡ c.path.result.now) c.deref.ensures.value c.in-Some.ensures.path ∙ c.path.ensures) in
    room_after_set d.sites.items c.in-Some.i c.args.site first same

pub returns-in_ok-reserve-in-None-clause-ok : goal.returns-in_ok-reserve-in-None-clause-ok
returns-in_ok-reserve-in-None-clause-ok c =
    let d = c.args.self.now in
    let pushed : c.push-pushed.new.self.items ≡ d.sites.items ++ c.args.site ∷ [] = search rules in
    let nowhere : IsNowhere d.sites.items c.args.site.path = subst (IsNowhere d.sites.items) c.path.ensures (subst (λ xs. IsNowhere xs c.path.result.now) c.deref.ensures.value c.in-None.ensures.none) in
    put_push (contents_of d) d.changes.items d.began c.len-self-in-None.result c.args.site c.push-pushed.new.self.items pushed d.volume_first d.store_first nowhere

pub returns-in_ok-reserve-in-None-clause-places_ok : goal.returns-in_ok-reserve-in-None-clause-places_ok
returns-in_ok-reserve-in-None-clause-places_ok c =
    let d = c.args.self.now in
    let pushed : c.push-pushed.new.self.items ≡ d.sites.items ++ c.args.site ∷ [] = search rules in
    let nowhere : IsNowhere d.sites.items c.args.site.path = subst (IsNowhere d.sites.items) c.path.ensures (subst (λ xs. IsNowhere xs c.path.result.now) c.deref.ensures.value c.in-None.ensures.none) in
    room_after_push d.sites.items c.push-pushed.new.self.items c.args.site pushed nowhere
