use Rattle.std.proofs.Common.{◌∙◌, sym}
use Rattle.tm_identity.proofs.Once.{stored_is}
use Rattle.tm_unique.proofs.Sizes.{sums_same}
use Rattle.tm_unique.proofs.counting.stored_bytes.Goals as goal

pub returns-clause-stored : goal.returns-clause-stored
returns-clause-stored c = λ v roots labels lengths st.
    c.stored_bytes.ensures ∙ sums_same c.args.graph.now ∙ sym ((stored_is v c.args.graph.now roots labels st).0 lengths)
