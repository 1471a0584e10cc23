-- Why a pattern isn't compiled, by the refusal of a part of the work (pcre2api, "Compiling a
-- pattern").
use Rattle.pat_grammar.specs.declared.error.ReadError.{ReadError}
use Rattle.pat_grammar.specs.declared.error.ReadError.TheVariants as reading
use Rattle.pat_check.specs.declared.facts.CheckError.{CheckError}
use Rattle.pat_check.specs.declared.facts.CheckError.TheVariants as checking
use Rattle.pcre2_errors.specs.declared.error.CompileError.{CompileError}
use Rattle.pcre2_errors.specs.declared.error.CompileError.TheVariants.{Bad, Memory}

abbrev pub compile_error_of : ReadError → CompileError
compile_error_of (reading.Bad number at) = Bad number at
compile_error_of reading.Memory = Memory

abbrev pub check_error_of : CheckError → CompileError
check_error_of (checking.Bad number at) = Bad number at
check_error_of checking.Memory = Memory
