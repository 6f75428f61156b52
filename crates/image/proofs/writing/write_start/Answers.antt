-- Eight bytes set one by one are one write.
use native.Mathlib.Omega.{arith}
use lib.ListN.{length-set}
use Rattle.model.specs.Image.{bit}
use Rattle.image.proofs.WrittenLaws.{bit_byte, eight_set}
use Rattle.image.proofs.writing.write_start.Goals as goal

pub bounds-area-1 : goal.bounds-area-1
bounds-area-1 c = simp length-set (omega arith)

pub bounds-area-2 : goal.bounds-area-2
bounds-area-2 c = simp length-set (omega arith)

pub bounds-area-3 : goal.bounds-area-3
bounds-area-3 c = simp length-set (omega arith)

pub bounds-area-4 : goal.bounds-area-4
bounds-area-4 c = simp length-set (omega arith)

pub bounds-area-5 : goal.bounds-area-5
bounds-area-5 c = simp length-set (omega arith)

pub bounds-area-6 : goal.bounds-area-6
bounds-area-6 c = simp length-set (omega arith)

pub bounds-area-7 : goal.bounds-area-7
bounds-area-7 c = simp length-set (omega arith)

pub shape_of-area : goal.shape_of-area
shape_of-area c = simp length-set

pub returns : goal.returns
returns c =
    let a = c.args in
    rw (c.from-2.ensures, c.from.ensures, bit_byte a.sent, bit_byte a.used) (eight_set 69 68 84 0 2 a.mode (bit a.used) (bit a.sent) a.area.now (omega arith))
