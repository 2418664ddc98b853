use Rattle.std.proofs.Common.{arith}
use Rattle.tree.proofs.Needing.{one_before, one_end, two_ends}
use Rattle.tree.proofs.pages.Pages.at_ends.Goals as goal

pub returns-then-first-last : goal.returns-then-first-last
returns-then-first-last g c =
    let b = c.first_block-first.ensures in
    let part = c.in_block.ensures in
    record {
      is = λ f h. one_end g.row.SIZE c.requires.some f _ _ _ _ c.args.self.some b (one_before _ _ c.end_block.ensures)
          _ _ _ part.first part.last (h _ _ c.count-head.ensures) c.if-first-last.true;
      few = λ n h. omega (arith, h _ _ c.count-head.ensures);
    }

pub returns : goal.returns
returns g c =
    let b = c.first_block-first.ensures in
    let part = c.in_block.ensures in
    let other = c.in_block-2.ensures in
    record {
      is = λ f h. two_ends g.row.SIZE c.requires.some f _ _ _ _ c.args.self.some b (one_before _ _ c.end_block.ensures)
          _ _ _ _ _ _ part.first part.last (h _ _ c.count-head.ensures) c.if-first-last.false other.first other.last (h _ _ c.count.ensures);
      few = λ n h. omega (arith, h _ _ c.count-head.ensures, h _ _ c.count.ensures);
    }
