mod Parsed
mod Forms
mod Civil
mod Digits
