-- A letter of the table is its row's, and one that differs from each of them is no option's.
use Rattle.std.proofs.Common.{sym, ap}
use Rattle.std.specs.Option.{option_map}
use Rattle.grep_args.specs.Table.{Row, table, by_letter}
use Rattle.grep_args.proofs.Absent.{letter_absent}
use Rattle.grep_args.proofs.table.by_letter.Goals as goal

pub returns-in-65-clause-option : goal.returns-in-65-clause-option
returns-in-65-clause-option c = ap by_letter (sym c.in-65.is)

pub returns-in-66-clause-option : goal.returns-in-66-clause-option
returns-in-66-clause-option c = ap by_letter (sym c.in-66.is)

pub returns-in-67-clause-option : goal.returns-in-67-clause-option
returns-in-67-clause-option c = ap by_letter (sym c.in-67.is)

pub returns-in-70-clause-option : goal.returns-in-70-clause-option
returns-in-70-clause-option c = ap by_letter (sym c.in-70.is)

pub returns-in-72-clause-option : goal.returns-in-72-clause-option
returns-in-72-clause-option c = ap by_letter (sym c.in-72.is)

pub returns-in-73-clause-option : goal.returns-in-73-clause-option
returns-in-73-clause-option c = ap by_letter (sym c.in-73.is)

pub returns-in-76-clause-option : goal.returns-in-76-clause-option
returns-in-76-clause-option c = ap by_letter (sym c.in-76.is)

pub returns-in-78-clause-option : goal.returns-in-78-clause-option
returns-in-78-clause-option c = ap by_letter (sym c.in-78.is)

pub returns-in-86-clause-option : goal.returns-in-86-clause-option
returns-in-86-clause-option c = ap by_letter (sym c.in-86.is)

pub returns-in-97-clause-option : goal.returns-in-97-clause-option
returns-in-97-clause-option c = ap by_letter (sym c.in-97.is)

pub returns-in-99-clause-option : goal.returns-in-99-clause-option
returns-in-99-clause-option c = ap by_letter (sym c.in-99.is)

pub returns-in-101-clause-option : goal.returns-in-101-clause-option
returns-in-101-clause-option c = ap by_letter (sym c.in-101.is)

pub returns-in-102-clause-option : goal.returns-in-102-clause-option
returns-in-102-clause-option c = ap by_letter (sym c.in-102.is)

pub returns-in-104-clause-option : goal.returns-in-104-clause-option
returns-in-104-clause-option c = ap by_letter (sym c.in-104.is)

pub returns-in-105-clause-option : goal.returns-in-105-clause-option
returns-in-105-clause-option c = ap by_letter (sym c.in-105.is)

pub returns-in-108-clause-option : goal.returns-in-108-clause-option
returns-in-108-clause-option c = ap by_letter (sym c.in-108.is)

pub returns-in-109-clause-option : goal.returns-in-109-clause-option
returns-in-109-clause-option c = ap by_letter (sym c.in-109.is)

pub returns-in-110-clause-option : goal.returns-in-110-clause-option
returns-in-110-clause-option c = ap by_letter (sym c.in-110.is)

pub returns-in-111-clause-option : goal.returns-in-111-clause-option
returns-in-111-clause-option c = ap by_letter (sym c.in-111.is)

pub returns-in-113-clause-option : goal.returns-in-113-clause-option
returns-in-113-clause-option c = ap by_letter (sym c.in-113.is)

pub returns-in-114-clause-option : goal.returns-in-114-clause-option
returns-in-114-clause-option c = ap by_letter (sym c.in-114.is)

pub returns-in-115-clause-option : goal.returns-in-115-clause-option
returns-in-115-clause-option c = ap by_letter (sym c.in-115.is)

pub returns-in-116-clause-option : goal.returns-in-116-clause-option
returns-in-116-clause-option c = ap by_letter (sym c.in-116.is)

pub returns-in-117-clause-option : goal.returns-in-117-clause-option
returns-in-117-clause-option c = ap by_letter (sym c.in-117.is)

pub returns-in-118-clause-option : goal.returns-in-118-clause-option
returns-in-118-clause-option c = ap by_letter (sym c.in-118.is)

pub returns-in-119-clause-option : goal.returns-in-119-clause-option
returns-in-119-clause-option c = ap by_letter (sym c.in-119.is)

pub returns-in-120-clause-option : goal.returns-in-120-clause-option
returns-in-120-clause-option c = ap by_letter (sym c.in-120.is)

pub returns-in_default-clause-option : goal.returns-in_default-clause-option
returns-in_default-clause-option c =
    sym (ap (option_map (λ (r : Row). r.option)) (letter_absent c.args.letter table assumption))
