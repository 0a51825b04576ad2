-- `compact::answer::put_answer` meets its contract. Assumes nothing.
use mathlib.Core.Path.{◌≡◌, sym, ◌∙◌}
use native.Mathlib.Omega.{arith}
use lib.ListN.{length}
use Rattle.session.specs.Session.{most_waiting}
use Rattle.compact.proofs.Answered.{answer-length, answer_steps}
use Rattle.compact.proofs.answer.put_answer.Goals as goal

pub returns : goal.returns
returns c =
    let long : length c.args.step.session.waiting ≡ most_waiting = omega arith in (
      answer_steps c.args.step c.args.files.now c.requires.0 long c.args.response.now _ _ _ _ c.requires.2
          c.fill.ensures
          c.word_of.ensures
          c.put_num.ensures
          c.put_data.ensures.0,
      c.put_data.ensures.1 ∙ sym (answer-length c.args.step c.args.files.now c.requires.0 long),
    )
