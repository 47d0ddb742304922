use Rattle.std.proofs.Common.{⊎_elim}
use Rattle.plan.proofs.Separation.{road_or_walk, road_parts}
use Rattle.plan.proofs.promises.roads_separate.Goals as goal

pub returns : goal.returns
returns c = λ p s a b in_a in_b.
    let either = road_or_walk p s a b in_a in_b in
    record {
      met = road_parts p s a b;
      unmet = λ none. ⊎_elim (λ m. absurd (none m)) (λ w. w) either;
      parted = λ none. ⊎_elim (λ m. m) (λ w. absurd (none w)) either;
    }
