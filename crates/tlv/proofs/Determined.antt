-- Each contract of a public function of this crate allows one result: whatever the arguments and the first content of the memory that
-- `put_length` writes, two results that it allows are the same, the answer and every byte of that memory. Of the part of a script that
-- `capdu` returns, its bytes are seen. Assumes nothing.
use contract.Lifetimes.{Lfts}
use Rattle.octets.proofs.Determined.{Determined, by_equation, pair, both}
use Rattle.tlv.proofs.lengths.length_at.Reads as length_at
use Rattle.tlv.proofs.lengths.code_of.Reads as code_of_lem
use Rattle.tlv.proofs.lengths.length_size.Reads as length-size
use Rattle.tlv.proofs.lengths.put_length.Reads as put_length
use Rattle.tlv.proofs.template.template_of.Reads as template-of
use Rattle.tlv.proofs.template.item_at.Reads as item-at
use Rattle.tlv.proofs.template.capdu.Reads as capdu

module _ (κs : Lfts 0) where
  pub code_of_determined : Determined (code_of_lem.Learnt κs) (λ args a e. a)
  code_of_determined = by_equation (λ args a e h. h)

  pub length_size_determined : Determined (length-size.Learnt κs) (λ args a e. a)
  length_size_determined = by_equation (λ args a e h. h.0)

module _ (κs : Lfts 1) where
  pub length_at_determined : Determined (length_at.Learnt κs) (λ args a e. a)
  length_at_determined = by_equation (λ args a e h. h.0)

  pub put_length_determined : Determined (put_length.Learnt κs) (λ args a e. pair a e.0.now)
  put_length_determined = by_equation (λ args a e h. both h.1 h.0)

  pub template_of_determined : Determined (template-of.Learnt κs) (λ args a e. a)
  template_of_determined = by_equation (λ args a e h. h.0)

  pub item_at_determined : Determined (item-at.Learnt κs) (λ args a e. a)
  item_at_determined = by_equation (λ args a e h. h.0)

  pub capdu_determined : Determined (capdu.Learnt κs) (λ args a e. a.now)
  capdu_determined = by_equation (λ args a e h. h)
