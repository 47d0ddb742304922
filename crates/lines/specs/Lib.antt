pub mod Calls
pub mod Lines
pub mod Numbers
pub mod Printed
pub mod Reading
pub mod Said
