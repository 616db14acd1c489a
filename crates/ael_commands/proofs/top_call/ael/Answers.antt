use Rattle.ael_commands.proofs.top_call.ael.Goals as goal

pub returns-clause-headline : goal.returns-clause-headline
returns-clause-headline g c = c.whole_call.ensures.answered

pub returns-clause-complete : goal.returns-clause-complete
returns-clause-complete g c = c.whole_call.ensures.complete

pub returns-clause-prints : goal.returns-clause-prints
returns-clause-prints g c = c.whole_call.ensures.prints

pub returns-clause-lists : goal.returns-clause-lists
returns-clause-lists g c = c.whole_call.ensures.lists

pub returns-clause-always_the_same : goal.returns-clause-always_the_same
returns-clause-always_the_same g c = c.whole_call.ensures.always_the_same

pub returns-clause-concords : goal.returns-clause-concords
returns-clause-concords g c = c.whole_call.ensures.concords

pub returns-clause-concord_ends : goal.returns-clause-concord_ends
returns-clause-concord_ends g c = c.whole_call.ensures.concord_ends

pub returns-clause-large_heaps_suffice : goal.returns-clause-large_heaps_suffice
returns-clause-large_heaps_suffice g c = c.whole_call.ensures.large_heaps_suffice

pub returns-clause-audits : goal.returns-clause-audits
returns-clause-audits g c = c.whole_call.ensures.audits

pub returns-clause-says_yes : goal.returns-clause-says_yes
returns-clause-says_yes g c = c.whole_call.ensures.says_yes
