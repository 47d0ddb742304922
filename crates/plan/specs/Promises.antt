-- What is promised of every plan and every file, a sentence each.
--     PackedReadsBack    the packed bytes of a plan are bytes, and they describe that plan and no other
--     ReadIsPacked       bytes that describe a plan are its packed bytes
--     EachFileIsOne      a file describes a plan or is refused; not both; one plan at most, and for one reason at most
--     SamplesPack        the plans worked by hand have the bytes that are shown, and the damaged one is refused at bit 31
--     RoadsSeparate      a set of links meets the road of two terms exactly when no walk over the other links
--                        leads from one to the other
--     RoadsTurn          two terms have a lowest common ancestor, and there their ways part: the rank is its depth,
--                        and the legs lead from it down to the two terms
use Rattle.std.specs.Prelude.{◌≡◌, ℕ, ◌<◌, Bool, ◌⊎◌, List}
use Rattle.plan.specs.Bits.{Bytes}
use Rattle.std.specs.List.{AllByRecursion}
use Rattle.plan.specs.Layout.{Describes, Refuses}
use Rattle.plan.specs.Packed.{packed}
use Rattle.plan.specs.Samples.{damaged, samples, PacksAsShown}
use Rattle.plan.specs.Turning.{Turned, TurnsAt}
use Rattle.plan.specs.Walks.{Meets, Walk}
use Rattle.plan.specs.declared.fault.BitsFault.TheVariants.{Surplus}
use Rattle.plan.specs.declared.fault.PlanFault.{PlanFault}
use Rattle.plan.specs.declared.fault.PlanFault.TheVariants.{Bits}
use Rattle.plan.specs.declared.shape.Plan.{Plan}

abbrev pub PackedReadsBack : Type 0
PackedReadsBack = (p : Plan) → Bytes (packed p) × Describes (packed p) p × ((q : Plan) → Describes (packed p) q → q ≡ p)

abbrev pub ReadIsPacked : Type 0
ReadIsPacked = (bs : List ℕ) (p : Plan) → Bytes bs → Describes bs p → bs ≡ packed p

-- reading is a function: from bytes to a plan or a refusal
pub record ReadsOnce (bs : List ℕ) : Type 0 where
  pub total : ((p : Plan) × Describes bs p) ⊎ ((f : PlanFault) × Refuses bs f)
  pub apart : (p : Plan) (f : PlanFault) → Describes bs p → Refuses bs f → ⊥
  pub plan : (p q : Plan) → Describes bs p → Describes bs q → p ≡ q
  pub refusal : (f g : PlanFault) → Refuses bs f → Refuses bs g → f ≡ g

abbrev pub EachFileIsOne : Type 0
EachFileIsOne = (bs : List ℕ) → ReadsOnce bs

abbrev pub SamplesPack : Type 0
SamplesPack = AllByRecursion PacksAsShown samples × Refuses damaged (Bits (Surplus 31))

-- the set s meets the road of a and b exactly when it leaves no walk between them
pub record Separates (p : Plan) (s : ℕ → Bool) (a b : ℕ) : Type 0 where
  pub met : Meets p s a b → Walk p s a b → ⊥
  pub unmet : (Meets p s a b → ⊥) → Walk p s a b
  pub parted : (Walk p s a b → ⊥) → Meets p s a b

abbrev pub RoadsSeparate : Type 0
RoadsSeparate = (p : Plan) (s : ℕ → Bool) (a b : ℕ) → a < p.terms → b < p.terms → Separates p s a b

abbrev pub RoadsTurn : Type 0
RoadsTurn = (p : Plan) (a b : ℕ) → ((c : ℕ) × TurnsAt p a b c) × ((c : ℕ) → TurnsAt p a b c → Turned p a b c)
