-- Each contract of this crate allows one result: whatever the arguments and the first contents of the lent memories, two results that
-- it allows are the same, the answer and every byte of each memory that is lent to be written. The definition and the one law of it
-- that the file of this name in every crate cites stand here. Assumes nothing.
use mathlib.Core.Path.{◌≡◌, sym, ◌∙◌}
use contract.Lifetimes.{Lfts}
use Rattle.octets.proofs.wide.Reads as wide
use Rattle.octets.proofs.num_at.Reads as num-at
use Rattle.octets.proofs.bytes2.Reads as two
use Rattle.octets.proofs.put_num.Reads as put-num
use Rattle.octets.proofs.copy.Reads as copy
use Rattle.octets.proofs.fill.Reads as fill
use Rattle.octets.proofs.put_head.Reads as put-head
use Rattle.octets.proofs.all_zero.Reads as all-zero
use Rattle.octets.proofs.within.Reads as within

-- A contract allows one result: whatever the arguments, what a caller sees of two results that it allows is equal. `seen` takes it from
-- an answer and the parameters at exit, beside the arguments.
pub Determined : {Arguments Answer Exit Seen : Type 0} → (Arguments → Answer → Exit → Type 0) → (Arguments → Answer → Exit → Seen) → Type 0
Determined {Arguments} {Answer} {Exit} allows seen =
    (args : Arguments) (one other : Answer) (left right : Exit) → allows args one left → allows args other right → seen args one left ≡ seen args other right

-- The one law: a contract that says what is seen by an equation, whose other side the arguments fix, allows one result.
pub by_equation :
    {Arguments Answer Exit Seen : Type 0} {allows : Arguments → Answer → Exit → Type 0} {seen : Arguments → Answer → Exit → Seen} {given : Arguments → Seen}
    → ((args : Arguments) (a : Answer) (e : Exit) → allows args a e → seen args a e ≡ given args) → Determined allows seen
unfolding Determined
by_equation says args one other left right h k = says args one left h ∙ sym (says args other right k)

-- two things that are seen together: an answer and a memory, or two memories
pub record Pair (A B : Type 0) : Type 0 where
  pub one : A
  pub other : B

abbrev pub pair : {A B : Type 0} → A → B → Pair A B
pair a b = record { one = a; other = b }

pub both : {A B : Type 0} {a c : A} {b d : B} → a ≡ c → b ≡ d → pair a b ≡ pair c d
both e f = λ i. pair (e i) (f i)

module _ (κs : Lfts 0) where
  pub wide_determined : Determined (wide.Learnt κs) (λ args a e. a)
  wide_determined = by_equation (λ args a e h. h.0)

  pub bytes2_determined : Determined (two.Learnt κs) (λ args a e. a)
  bytes2_determined = by_equation (λ args a e h. h)

module _ (κs : Lfts 1) where
  pub num_at_determined : Determined (num-at.Learnt κs) (λ args a e. a)
  num_at_determined = by_equation (λ args a e h. h.0)

  pub put_num_determined : Determined (put-num.Learnt κs) (λ args a e. e.0.now)
  put_num_determined = by_equation (λ args a e h. h)

  pub fill_determined : Determined (fill.Learnt κs) (λ args a e. e.0.now)
  fill_determined = by_equation (λ args a e h. h)

  pub put_head_determined : Determined (put-head.Learnt κs) (λ args a e. e.0.now)
  put_head_determined = by_equation (λ args a e h. h)

  pub all_zero_determined : Determined (all-zero.Learnt κs) (λ args a e. a)
  all_zero_determined = by_equation (λ args a e h. h)

module _ (κs : Lfts 2) where
  pub copy_determined : Determined (copy.Learnt κs) (λ args a e. e.0.now)
  copy_determined = by_equation (λ args a e h. h)

  pub within_determined : Determined (within.Learnt κs) (λ args a e. a)
  within_determined = by_equation (λ args a e h. h)
