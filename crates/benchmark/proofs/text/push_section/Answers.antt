use Rattle.std.proofs.Common.{append_assoc, ◌∙◌}
use Rattle.benchmark.specs.Text.{section_text}
use Rattle.benchmark.proofs.text.push_section.Goals as goal

pub returns : goal.returns
unfolding section_text
returns c = c.in_ok-write.ensures.bytes ∙ simp append_assoc
