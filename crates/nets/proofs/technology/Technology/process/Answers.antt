-- Why `process` meets its contract.
use Rattle.std.proofs.Common.{vec_items, refl, arith}
use Rattle.nets.proofs.Technologies.{ok_facts, technology_same}
use Rattle.nets.proofs.technology.Technology.process.Goals as goal

pub bounds-self-0 : goal.bounds-self-0
bounds-self-0 c = let f = ok_facts c.args.self.now.numbers.now c.args.self.now.sound in omega arith

pub bounds-self-1 : goal.bounds-self-1
bounds-self-1 c = let f = ok_facts c.args.self.now.numbers.now c.args.self.now.sound in omega arith

pub bounds-self-2 : goal.bounds-self-2
bounds-self-2 c = let f = ok_facts c.args.self.now.numbers.now c.args.self.now.sound in omega arith

pub bounds-self-3 : goal.bounds-self-3
bounds-self-3 c = let f = ok_facts c.args.self.now.numbers.now c.args.self.now.sound in omega arith

pub read_marks-requires : goal.read_marks-requires
read_marks-requires c = let f = ok_facts c.args.self.now.numbers.now c.args.self.now.sound in omega arith

pub overflow_add-layers : goal.overflow_add-layers
overflow_add-layers c = let f = ok_facts c.args.self.now.numbers.now c.args.self.now.sound in omega arith

pub read_joins-requires : goal.read_joins-requires
read_joins-requires c = let f = ok_facts c.args.self.now.numbers.now c.args.self.now.sound in omega arith

pub returns : goal.returns
returns c =
    technology_same c.args.self.now.numbers.now (vec_items c.in_ok-carries.carries) (vec_items c.in_ok-joins.joins) _ _ c.in_ok-carries.ensures c.in_ok-joins.ensures refl refl
