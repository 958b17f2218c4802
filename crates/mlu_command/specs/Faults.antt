-- What the program prints of a fault, and its status.
use Rattle.std.specs.Prelude.{ℕ, List, codes}
use Rattle.mlu_command.specs.declared.fault.Fault.{Fault}
use Rattle.mlu_command.specs.declared.fault.Fault.TheVariants.{Usage, Number, Length, Arity, Memory}

-- the text on standard error
abbrev pub fault_text : Fault → List ℕ
fault_text Usage = codes "mlu: usage\n"
fault_text Number = codes "mlu: number\n"
fault_text Length = codes "mlu: length\n"
fault_text Arity = codes "mlu: arity\n"
fault_text Memory = codes "mlu: memory\n"

-- the status that the program ends with
abbrev pub fault_status : Fault → ℕ
fault_status Usage = 2
fault_status Number = 2
fault_status Length = 2
fault_status Arity = 2
fault_status Memory = 3
