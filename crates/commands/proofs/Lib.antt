mod Words
mod Forms
mod Refused
