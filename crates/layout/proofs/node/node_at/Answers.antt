-- What `node_at` needs beyond what the search finds.
use Rattle.std.proofs.Common.{arith}
use Rattle.layout.proofs.Reading.{read-0, read-1, read-2, read-3, read-4, read-5, read-6, read-7, late-2a, late-2b, late-3, late-4, late-5, late-6, late-7, no_kind}
use Rattle.layout.proofs.node.node_at.Goals as goal

pub returns-in-0 : goal.returns-in-0
returns-in-0 c = read-0 _ _ c.requires.small c.in-0.is

pub returns-in-1 : goal.returns-in-1
returns-in-1 c = read-1 _ _ c.requires.small c.in-1.is

pub returns-in-2 : goal.returns-in-2
returns-in-2 c = read-2 _ _ c.requires.small c.in-2.is c.if-a-limit.true c.if-b-limit.true

pub returns-in-3 : goal.returns-in-3
returns-in-3 c = read-3 _ _ c.requires.small c.in-3.is c.if-c-limit.true

pub returns-in-4 : goal.returns-in-4
returns-in-4 c = read-4 _ _ c.requires.small c.in-4.is c.if-b-limit-2.true

pub returns-in-5 : goal.returns-in-5
returns-in-5 c = read-5 _ _ c.requires.small c.in-5.is c.if-b-limit-3.true

pub returns-in-6 : goal.returns-in-6
returns-in-6 c = read-6 _ _ c.requires.small c.in-6.is c.if-c-limit-2.true

pub returns-in-7 : goal.returns-in-7
returns-in-7 c = read-7 _ _ c.requires.small c.in-7.is c.if-c-limit-3.true

pub returns-in_default : goal.returns-in_default
returns-in_default c = late-2b _ _ c.in-2.is c.if-b-limit.false

pub returns-in_default-2 : goal.returns-in_default-2
returns-in_default-2 c = late-2a _ _ c.in-2.is c.if-a-limit.false

pub returns-in_default-3 : goal.returns-in_default-3
returns-in_default-3 c = late-3 _ _ c.in-3.is c.if-c-limit.false

pub returns-in_default-4 : goal.returns-in_default-4
returns-in_default-4 c = late-4 _ _ c.in-4.is c.if-b-limit-2.false

pub returns-in_default-5 : goal.returns-in_default-5
returns-in_default-5 c = late-5 _ _ c.in-5.is c.if-b-limit-3.false

pub returns-in_default-6 : goal.returns-in_default-6
returns-in_default-6 c = late-6 _ _ c.in-6.is c.if-c-limit-2.false

pub returns-in_default-7 : goal.returns-in_default-7
returns-in_default-7 c = late-7 _ _ c.in-7.is c.if-c-limit-3.false

pub returns-in_default-8 : goal.returns-in_default-8
returns-in_default-8 c = no_kind c.args.nodes.now c.args.n (omega arith)
