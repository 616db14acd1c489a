use Rattle.std.proofs.Common.{string_bytes}
use Rattle.std.proofs.lemmas.Str.{IsUtf8-past_char}
use Rattle.ael_picture.proofs.Markups.{chars_left, text_done, text_more}
use Rattle.ael_picture.proofs.svg.push_text.Goals as goal

pub loop-c-preserved : goal.loop-c-preserved
loop-c-preserved c =
    let before = c.loop-c.invariant in
    let step = c.in-Some.ensures.steps.0 in
    record {
      so_far = text_more (string_bytes c.args.out.now) (string_bytes c.loop-c.out) (string_bytes c.push_char.new.out) c.loop-c.yielded c.in-Some.c before.so_far c.in_ok-push_char.ensures;
      left = chars_left c.args.text.now c.loop-c.yielded c.loop-c.c-iterator.rest.now c.next.new.self.rest.now c.in-Some.c before.utf8 step before.left;
      utf8 = IsUtf8-past_char c.loop-c.c-iterator.rest.now c.next.new.self.rest.now c.in-Some.c before.utf8 step;
    }

pub returns : goal.returns
returns c = text_done (string_bytes c.args.out.now) (string_bytes c.loop-c.out) c.args.text.now c.loop-c.yielded c.loop-c.c-iterator.rest.now c.in-None.ensures.steps.0.0 c.loop-c.invariant.left c.loop-c.invariant.so_far
