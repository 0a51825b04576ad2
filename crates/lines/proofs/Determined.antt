-- Each contract of a public function of this crate allows one result: whatever the arguments and the first content of the memory that is
-- lent to be written, two results that it allows are the same, the answer and every byte of that memory. Assumes nothing.
use contract.Lifetimes.{Lfts}
use Rattle.octets.proofs.Determined.{Determined, by_equation, pair, both}
use Rattle.lines.proofs.digits.plain_number.Reads as plain-number
use Rattle.lines.proofs.digits.is_hex.Reads as is-hex
use Rattle.lines.proofs.digits.decode.Reads as decode
use Rattle.lines.proofs.put.put_number.Reads as put-number
use Rattle.lines.proofs.put.put_bytes.Reads as put-bytes
use Rattle.lines.proofs.values.value_end.Reads as value-end
use Rattle.lines.proofs.values.value_at.Reads as value-at
use Rattle.lines.proofs.values.number_at.Reads as number_at
use Rattle.lines.proofs.values.hex_at.Reads as hex-at
use Rattle.lines.proofs.calls.call_at.Reads as call-at
use Rattle.lines.proofs.worked.run_on_worked.Reads as run-on-worked

module _ (κs : Lfts 1) where
  pub value_end_determined : Determined (value-end.Learnt κs) (λ args a e. a)
  value_end_determined = by_equation (λ args a e h. h.0)

  pub plain_number_determined : Determined (plain-number.Learnt κs) (λ args a e. a)
  plain_number_determined = by_equation (λ args a e h. h.0)

  pub is_hex_determined : Determined (is-hex.Learnt κs) (λ args a e. a)
  is_hex_determined = by_equation (λ args a e h. h)

module _ (κs : Lfts 2) where
  pub value_at_determined : Determined (value-at.Learnt κs) (λ args a e. a)
  value_at_determined = by_equation (λ args a e h. h.0)

  pub number_at_determined : Determined (number_at.Learnt κs) (λ args a e. a)
  number_at_determined = by_equation (λ args a e h. h.0)

  pub hex_at_determined : Determined (hex-at.Learnt κs) (λ args a e. a)
  hex_at_determined = by_equation (λ args a e h. h.0)

  pub call_at_determined : Determined (call-at.Learnt κs) (λ args a e. a)
  call_at_determined = by_equation (λ args a e h. h)

  pub decode_determined : Determined (decode.Learnt κs) (λ args a e. pair a e.1.0.now)
  decode_determined = by_equation (λ args a e h. both h.1 h.0)

  pub put_number_determined : Determined (put-number.Learnt κs) (λ args a e. pair a e.0.now)
  put_number_determined = by_equation (λ args a e h. both h.1 h.0)

module _ (κs : Lfts 3) where
  pub put_bytes_determined : Determined (put-bytes.Learnt κs) (λ args a e. pair a e.0.now)
  put_bytes_determined = by_equation (λ args a e h. both h.1 h.0)

  pub run_on_worked_determined : Determined (run-on-worked.Learnt κs) (λ args a e. pair a (pair e.1.1.0.now e.1.1.1.0.now))
  run_on_worked_determined = by_equation (λ args a e h. both h.0 (both h.1.0 h.1.1.0))
