use Rattle.std.proofs.Common.{arith, inl, inr}
use Rattle.scalar_types.proofs.RankLemmas.{rank_rises, rank_le_top}
use Rattle.scalar_types.proofs.laws.rank_rises.Goals as goal

pub returns : goal.returns
returns c = record {
  rises = λ labels classes l k depth a b v w t u p q h up.
      elim (rank_rises labels classes l k depth a b v w t u p q h) [ inl r ↦ r | inr e ↦ absurd (up e.1) ];
  bounded = λ labels classes l k depth a v u p. rank_le_top labels classes l k depth a v u p;
  at_depth_three = λ labels classes. omega arith;
}
