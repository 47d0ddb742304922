-- Instances that agree at every link and every pair are equal.
--     same_instance    what agrees everywhere is equal
--     remain_remain    what remains of what remains, in one go
use Rattle.std.proofs.Common.{◌≡◌, ℕ, Bool, ◌&&◌, arith}
use Rattle.cuts.specs.After.{remain}
use Rattle.cuts.specs.Instances.{Instance}

pub same_instance :
    (i j : Instance) → i.highest ≡ j.highest → i.pairs ≡ j.pairs → ((l : ℕ) → i.live l ≡ j.live l) →
    ((p : ℕ) → i.opened p ≡ j.opened p) → ((l p : ℕ) → i.on l p ≡ j.on l p) → i ≡ j
same_instance i j highest pairs live opened on = grind arith

pub remain_remain :
    (i : Instance) (f g u v : ℕ → Bool) → remain (remain i f g) u v ≡ remain i (λ x. f x && u x) (λ p. g p && v p)
remain_remain i f g u v = grind arith
