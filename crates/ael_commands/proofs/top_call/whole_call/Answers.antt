use Rattle.ael_commands.proofs.top_call.whole_call.Goals as goal

pub returns : goal.returns
returns g c = c.finish.ensures.holds _ _ (record {
  drawn = c.answer-answer.ensures.drawn _ c.read_words.ensures.asked;
  steady = c.answer-answer.ensures.counted;
  answer = c.answer-answer.ensures.answer _ c.read_words.ensures.asked;
})
